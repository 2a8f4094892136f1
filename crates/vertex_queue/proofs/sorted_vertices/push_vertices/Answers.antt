use Rattle.std.proofs.Common.{◌≡◌, ◌+◌, ◌++◌, ◌∷◌, [], ℕ, List, map, take, get_or, sym, ap, ◌∙◌}
use Rattle.std.proofs.lemmas.List.{take_more, take_all, map-append, append-nil, append_assoc}
use Rattle.std.proofs.lemmas.List.Elements.{Contains-get_or}
use Rattle.ospf_types.specs.declared.entry.Vertex.{Vertex}
use Rattle.vertex_queue.specs.Keys.{vertex_at}
use Rattle.vertex_queue.proofs.sorted_vertices.push_vertices.Goals as goal

pub loop-key-init : goal.loop-key-init
loop-key-init c = sym (append-nil c.args.vertices.now.items)

pub vertex_of-requires : goal.vertex_of-requires
vertex_of-requires c = c.requires _ (Contains-get_or c.args.keys.now c.loop-key.key-index 0 c.loop-key-test.true)

pub loop-key-preserved : goal.loop-key-preserved
loop-key-preserved c =
    let i = c.loop-key.key-index in
    let keys = c.args.keys.now in
    let first = c.args.vertices.now.items in
    let key = get_or keys i 0 in
    let more : take (i + 1) keys ≡ take i keys ++ key ∷ [] = take_more keys i 0 c.loop-key-test.true in
    c.in_ok-push.ensures.items ∙ (λ j. c.loop-key.invariant j ++ c.vertex_of.ensures j ∷ [])
    ∙ append_assoc first (map vertex_at (take i keys)) (vertex_at key ∷ [])
    ∙ ap (λ (vs : List Vertex). first ++ vs) (sym (ap (λ (ks : List ℕ). map vertex_at ks) more ∙ map-append vertex_at (take i keys) (key ∷ [])))

pub returns : goal.returns
returns c = c.loop-key.invariant ∙ ap (λ (ks : List ℕ). c.args.vertices.now.items ++ map vertex_at ks) (take_all c.loop-key.key-index c.args.keys.now c.loop-key-test.false)
