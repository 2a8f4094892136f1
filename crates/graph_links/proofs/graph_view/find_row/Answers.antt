use Rattle.std.proofs.Common.{◌∙◌, sym, ap}
use Rattle.std.specs.FinMap.{find}
use Rattle.ospf_types.specs.declared.entry.Vertex.{Vertex}
use Rattle.ospf_types.specs.Vertices.{vertex_cmp}
use Rattle.vertex_map.proofs.Values.{same_vertex}
use Rattle.graph_links.proofs.VertexTests.{found_at}
use Rattle.graph_links.proofs.graph_view.find_row.Goals as goal

pub returns-in-Some : goal.returns-in-Some
returns-in-Some c = found_at c.args.rows.now.entries c.in-Some.at.now c.args.vertex.now c.in-Some.row.now (same_vertex c.in-Some.at.now c.vertex.result (sym c.if-eq.ensures) ∙ c.vertex.ensures) (sym c.in-Some.ensures.value)

pub returns-in_default : goal.returns-in_default
returns-in_default c = c.hashed_row.ensures ∙ ap (λ (v : Vertex). find vertex_cmp v c.args.rows.now.entries) c.vertex-in_default.ensures
