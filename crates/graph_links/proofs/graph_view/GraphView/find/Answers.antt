use Rattle.std.proofs.Common.{ap, ◌∙◌}
use Rattle.std.specs.FinMap.{find}
use Rattle.ospf_types.specs.declared.entry.Vertex.{Vertex}
use Rattle.ospf_types.specs.Vertices.{vertex_cmp}
use Rattle.graph_links.specs.Sides.{row_ends, staged_or}
use Rattle.graph_links.proofs.graph_view.GraphView.find.Goals as goal

pub returns-in-Some : goal.returns-in-Some
returns-in-Some c =
    let side = c.args.self in
    c.staged_ends.ensures ∙ ap (λ o. staged_or o (row_ends side.rows.now.entries c.args.vertex.now)) (c.in-Some.ensures ∙ ap (λ (v : Vertex). find vertex_cmp v side.staged.now.entries) c.vertex.ensures)

pub returns-in-None : goal.returns-in-None
returns-in-None c =
    let side = c.args.self in
    c.placed_ends.ensures ∙ ap (λ o. staged_or o (row_ends side.rows.now.entries c.args.vertex.now)) (c.in-None.ensures ∙ ap (λ (v : Vertex). find vertex_cmp v side.staged.now.entries) c.vertex.ensures)
