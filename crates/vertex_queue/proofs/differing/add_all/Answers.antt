use Rattle.std.proofs.Common.{◌++◌, ◌∷◌, [], List, take, sym, ap, ◌∙◌}
use Rattle.std.proofs.lemmas.List.{take_more, take_all, append-nil, append_assoc}
use Rattle.ospf_types.specs.declared.entry.Vertex.{Vertex}
use Rattle.vertex_queue.proofs.differing.add_all.Goals as goal

pub loop-vertex-init : goal.loop-vertex-init
loop-vertex-init c = sym (append-nil c.args.listing.now)

pub loop-vertex-preserved : goal.loop-vertex-preserved
loop-vertex-preserved c =
    let i = c.loop-vertex.vertex-index in
    let w = c.vertex-item.result in
    let first = c.args.listing.now in
    let before = take i c.args.vertices.now in
    c.in_ok-push.ensures.pushed ∙ (λ j. c.loop-vertex.invariant j ++ c.vertex.ensures j ∷ [])
    ∙ append_assoc first before (w ∷ [])
    ∙ ap (λ (vs : List Vertex). first ++ vs) (ap (λ (v : Vertex). before ++ v ∷ []) c.vertex-item.is ∙ sym (take_more c.args.vertices.now i w c.loop-vertex-test.true))

pub returns : goal.returns
returns c = c.loop-vertex.invariant ∙ ap (λ (vs : List Vertex). c.args.listing.now ++ vs) (take_all c.loop-vertex.vertex-index c.args.vertices.now c.loop-vertex-test.false)
