use Rattle.std.proofs.Common.{refl, sym, ap, ◌∙◌}
use Rattle.std.specs.FinMap.{FinMap, get}
use Rattle.ospf_types.specs.Vertices.{vertex_cmp}
use Rattle.vertex_map.proofs.Values.{found_at, not_found}
use Rattle.vertex_map.proofs.vertex_map.VertexMap.find.Goals as goal

pub returns-in-Some : goal.returns-in-Some
returns-in-Some g c =
    c.as_ref.ensures.value ∙ sym (found_at c.self.inside.entries.entries c.args.vertex c.args.vertex c.in-Some.kept.now (sym c.in-Some.ensures.value) refl)
    ∙ ap (λ (m : FinMap vertex_cmp g.row.V.Denot). get m c.args.vertex) c.self.view_is

pub returns-in-None : goal.returns-in-None
returns-in-None g c =
    sym (ap (λ (m : FinMap vertex_cmp g.row.V.Denot). get m c.args.vertex) (sym c.self.view_is)
    ∙ not_found c.self.inside.entries.entries c.args.vertex (sym c.in-None.ensures.value))
