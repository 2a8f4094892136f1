use Rattle.std.proofs.Common.{true, false, sym, subst}
use Rattle.std.specs.Prelude.{◌≡◌}
use Rattle.std.specs.FinMap.{get}
use Rattle.std.proofs.lemmas.Result.{on_ok_weaker}
use Rattle.vertex_queue.specs.Queues.{Queue}
use Rattle.spf.specs.HandedOn.{ArePut, IsHeadOver}
use Rattle.spf.proofs.QueuePuts.{put_head}
use Rattle.spf.proofs.update_next_hops.LeastLinks.put_head.Goals as goal

pub returns-in-Some : goal.returns-in-Some
returns-in-Some c =
    let put = put_head (get c.args.self.distances.now) c.args.root c.args.queue.now c.args.link.now c.in-Some.distance c.in-Some.ensures.least c.in-Some.ensures.head (λ is. let wrong : false ≡ true = c.if-is_at_root.ensures.1 is in cc) in
    on_ok_weaker c.put.result (λ is. subst (λ (q : Queue). ArePut (get c.args.self.distances.now) (IsHeadOver c.args.root (get c.args.self.distances.now) c.args.link.now) (get c.args.queue.now) (get q)) (sym is) put) c.put.ensures.put
