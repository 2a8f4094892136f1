use Rattle.std.proofs.Common.{true, false, sym, subst}
use Rattle.std.specs.Prelude.{◌≡◌}
use Rattle.std.specs.FinMap.{get}
use Rattle.std.proofs.lemmas.Result.{on_ok_weaker}
use Rattle.vertex_queue.specs.Queues.{Queue}
use Rattle.spf.specs.HandedOn.{ArePut, IsReachedAt}
use Rattle.spf.proofs.QueuePuts.{put_reached}
use Rattle.spf.proofs.update_next_hops.put_if_reached.Goals as goal

pub returns-in-Some : goal.returns-in-Some
returns-in-Some c =
    let put = put_reached (get c.args.distances.now) c.args.root c.args.queue.now c.args.vertex.now c.in-Some.distance (sym c.in-Some.ensures.value) (λ is. let wrong : false ≡ true = c.if-is_at_root.ensures.1 is in cc) in
    on_ok_weaker c.put.result (λ is. subst (λ (q : Queue). ArePut (get c.args.distances.now) (IsReachedAt c.args.root (get c.args.distances.now) c.args.vertex.now) (get c.args.queue.now) (get q)) (sym is) put) c.put.ensures.put
