use Rattle.std.proofs.Common.{◌≡◌, List, [], ◌∷◌, ◌++◌, take, get_or, Bor, sym, ap, subst, ◌∙◌}
use Rattle.std.specs.Prelude.{option_map}
use Rattle.std.proofs.lemmas.List.{take_more, take_all}
use Rattle.lsa_codec.specs.declared.checked.Checked.{Checked}
use Rattle.ospf_types.specs.declared.entry.Vertex.{Vertex}
use Rattle.ospf_types.specs.declared.entry.Vertex.TheVariants.{Router}
use Rattle.vertex_graph.specs.Graphs.{Handed, handed_of}
use Rattle.area_trees.specs.Areas.{AreStanding}
use Rattle.area_trees.proofs.Handed.{standing_push, handed_push}
use Rattle.area_trees.proofs.vertices.lsa_for_vertex.Goals as goal

pub loop-vertex-preserved : goal.loop-vertex-preserved
loop-vertex-preserved c =
    let d = c.args.database.now.lsas in
    let vertices = c.args.vertices.now in
    let i = c.loop-vertex.vertex-index in
    let before = c.loop-vertex.handed.items in
    let vertex = get_or vertices i (Router 0) in
    let lsa = c.lsa_of.result in
    let pushed : handed_of c.push.new.self.items ≡ handed_of before ++ (vertex, option_map (λ (l : Bor Checked). l.now.body) lsa) ∷ [] = ap handed_of c.in_ok-push.ensures.items ∙ handed_push before vertex lsa in
    subst (λ (p : List Vertex × List Handed). AreStanding d p.0 p.1) (λ j. (sym (take_more vertices i (Router 0) c.loop-vertex-test.true) j, sym pushed j))
    (standing_push d (take i vertices) (handed_of before) vertex (option_map (λ (l : Bor Checked). l.now.body) lsa) c.loop-vertex.invariant c.lsa_of.ensures.body)

pub returns : goal.returns
returns c = subst (λ (vs : List Vertex). AreStanding c.args.database.now.lsas vs (handed_of c.loop-vertex.handed.items)) (take_all c.loop-vertex.vertex-index c.args.vertices.now c.loop-vertex-test.false) c.loop-vertex.invariant
