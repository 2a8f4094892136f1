use Rattle.std.proofs.Common.{ℕ, ◌++◌, ◌∷◌, [], Option, ap, ◌∙◌}
use Rattle.std.specs.FinMap.{get}
use Rattle.ospf_types.specs.declared.entry.Vertex.{Vertex}
use Rattle.vertex_queue.proofs.Grown.{remembered_next, remembered_all}
use Rattle.vertex_queue.proofs.differing.remember.Goals as goal

pub loop-vertex-init : goal.loop-vertex-init
loop-vertex-init c = c.in_ok-push.ensures.items ∙ (λ i. c.clear.ensures.items i ++ (c.copy.ensures i, c.get.ensures.value i) ∷ [])

pub loop-vertex-preserved : goal.loop-vertex-preserved
loop-vertex-preserved c =
    let at : Vertex → Vertex × Option ℕ = λ v. (v, get c.args.distances.now v) in
    let i = c.loop-vertex.vertex-index in
    remembered_next at c.args.root.now c.args.lost.now i c.vertex-item.result c.loop-vertex.remembered.items _ c.loop-vertex-test.true c.loop-vertex.invariant
    (c.in_ok-push-2.ensures.items ∙ (λ j. c.loop-vertex.remembered.items ++ (c.copy-in-loop-vertex.ensures j, c.get-in-loop-vertex.ensures.value j) ∷ []) ∙ ap (λ (v : Vertex). c.loop-vertex.remembered.items ++ at v ∷ []) c.vertex-item.is)

pub returns : goal.returns
returns c =
    let at : Vertex → Vertex × Option ℕ = λ v. (v, get c.args.distances.now v) in
    remembered_all at c.args.root.now c.args.lost.now c.loop-vertex.vertex-index c.loop-vertex.remembered.items c.loop-vertex-test.false c.loop-vertex.invariant
