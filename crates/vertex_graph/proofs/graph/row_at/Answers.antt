use Rattle.std.proofs.Common.{◌≡◌, Some, sym, subst, ap, ◌∙◌}
use Rattle.std.specs.FinMap.{find}
use Rattle.ospf_types.specs.declared.entry.Vertex.{Vertex}
use Rattle.ospf_types.specs.Vertices.{vertex_cmp}
use Rattle.graph_links.proofs.VertexTests.{found}
use Rattle.vertex_map.proofs.Values.{same_vertex}
use Rattle.vertex_graph.proofs.graph.row_at.Goals as goal

pub returns-in-Some : goal.returns-in-Some
returns-in-Some c =
    let rows = c.args.rows.now.entries in
    sym (subst (λ (v : Vertex). find vertex_cmp v rows ≡ Some c.in-Some.row.now) (same_vertex c.in-Some.at.now c.vertex.result (sym c.if-eq.ensures) ∙ c.vertex.ensures)
    (sym (found c.in-Some.at.now rows) ∙ c.in-Some.ensures.value))

pub returns-in_default : goal.returns-in_default
returns-in_default c = c.get.ensures.value ∙ found _ c.args.rows.now.entries ∙ ap (λ (v : Vertex). find vertex_cmp v c.args.rows.now.entries) c.vertex-in_default.ensures
