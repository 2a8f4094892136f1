use Rattle.std.proofs.Common.{Some, sym, ap, ◌∙◌}
use Rattle.vertex_map.proofs.Values.{same_vertex}
use Rattle.graph_links.proofs.row_update.standing.Goals as goal

pub returns-in-Some : goal.returns-in-Some
returns-in-Some c = (c.in-Some.field-0-1.now, sym c.in-Some.ensures.entry ∙ ap (λ v. Some (v, c.in-Some.field-0-1.now)) (same_vertex c.in-Some.at.now c.vertex.result (sym c.if-eq.ensures) ∙ c.vertex.ensures))
