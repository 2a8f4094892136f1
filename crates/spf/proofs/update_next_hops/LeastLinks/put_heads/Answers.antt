use Rattle.std.proofs.Common.{ℕ, ap, subst, ◌∙◌}
use Rattle.std.specs.FinMap.{get}
use Rattle.vertex_graph.specs.Graphs.{LinksOf}
use Rattle.spf.specs.HandedOn.{IsOfSome, ArePut, IsHeadOver}
use Rattle.spf.proofs.OfSome.{contains_at}
use Rattle.spf.proofs.QueuePuts.{put_start, put_more, put_end, heads_put}
use Rattle.spf.proofs.update_next_hops.LeastLinks.put_heads.Goals as goal

pub loop-link-init : goal.loop-link-init
loop-link-init c = put_start (get c.args.self.distances.now) (IsHeadOver c.root-root.result (get c.args.self.distances.now)) c.links_from_at-link-items.result.now (get c.args.queue.now)

pub put_head-requires : goal.put_head-requires
put_head-requires c =
    let here = contains_at c.links_from_at-link-items.result.now c.loop-link.link-index c.link-item.result c.loop-link-test.true c.link-item.is in
    ap (get c.args.self.distances.now) ((c.links_from_at-link-items.ensures.exact c.link-item.result).0 here).0 ∙ c.requires

pub loop-link-preserved : goal.loop-link-preserved
loop-link-preserved c =
    put_more (get c.args.self.distances.now) (IsHeadOver c.root-root.result (get c.args.self.distances.now)) c.links_from_at-link-items.result.now c.loop-link.link-index c.link-item.result (get c.args.queue.now) (get c.loop-link.queue) (get c.put_head.new.queue)
    c.loop-link-test.true c.link-item.is c.loop-link.invariant c.in_ok-put_head.ensures

pub returns : goal.returns
returns c =
    heads_put (get c.args.self.distances.now) (LinksOf c.args.self.graph.now) c.args.self.graph.now.root c.args.taken.now.vertex c.links_from_at-link-items.result.now (get c.args.queue.now) (get c.loop-link.queue) c.links_from_at-link-items.ensures.exact
    (subst (λ (root : ℕ). ArePut (get c.args.self.distances.now) (IsOfSome c.links_from_at-link-items.result.now (IsHeadOver root (get c.args.self.distances.now))) (get c.args.queue.now) (get c.loop-link.queue)) c.root-root.ensures.value
    (put_end (get c.args.self.distances.now) (IsHeadOver c.root-root.result (get c.args.self.distances.now)) c.links_from_at-link-items.result.now c.loop-link.link-index (get c.args.queue.now) (get c.loop-link.queue) c.loop-link-test.false c.loop-link.invariant))
