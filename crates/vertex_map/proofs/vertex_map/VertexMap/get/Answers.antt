use Rattle.std.proofs.Common.{sym, ap, ◌∙◌}
use Rattle.std.specs.FinMap.{FinMap, get}
use Rattle.ospf_types.specs.Vertices.{vertex_cmp}
use Rattle.vertex_map.proofs.Values.{found_at, same_vertex}
use Rattle.vertex_map.proofs.vertex_map.VertexMap.get.Goals as goal

pub returns-in-Some : goal.returns-in-Some
returns-in-Some g c =
    c.as_ref.ensures.value
    ∙ sym (found_at c.self.inside.entries.entries c.in-Some.at.now c.args.vertex.now c.in-Some.kept.now c.in-Some.ensures.value (same_vertex c.in-Some.at.now c.vertex.result (sym c.if-eq.ensures) ∙ c.vertex.ensures))
    ∙ ap (λ (m : FinMap vertex_cmp g.row.V.Denot). get m c.args.vertex.now) c.self.view_is
