use Rattle.std.proofs.Common.{◌+◌, List, take, sym, subst}
use Rattle.std.specs.List.Sorted.{IsPermutation}
use Rattle.std.proofs.lemmas.List.{take_all}
use Rattle.ospf_types.specs.declared.entry.Vertex.TheVariants.{Router}
use Rattle.area_drawings.specs.declared.reached.ReachedVertex.{ReachedVertex}
use Rattle.area_drawings.proofs.Inserted.{one_inserted}
use Rattle.area_drawings.proofs.ordering.order_rows.Goals as goal

pub loop-vertex-preserved : goal.loop-vertex-preserved
loop-vertex-preserved c =
    let blank : ReachedVertex = record { vertex = Router 0; distance = 0 } in
    subst (λ (vs : List ReachedVertex). IsPermutation (take (c.loop-vertex.vertex-index + 1) c.args.reached.now) vs) (sym c.in_ok-insert.ensures.items)
    (one_inserted c.args.reached.now c.loop-vertex.ordered.items c.loop-vertex.vertex-index c.behind_parent-place.result blank c.loop-vertex-test.true c.loop-vertex.invariant)

pub returns : goal.returns
returns c = subst (λ (vs : List ReachedVertex). IsPermutation vs c.loop-vertex.ordered.items) (take_all c.loop-vertex.vertex-index c.args.reached.now c.loop-vertex-test.false) c.loop-vertex.invariant
