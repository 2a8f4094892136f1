use Rattle.std.proofs.Common.{is_some, Some, sym, ap, ◌∙◌}
use Rattle.vertex_map.proofs.Values.{found_at, same_vertex}
use Rattle.vertex_map.proofs.vertex_map.standing.Goals as goal

pub returns-in-Some-clause-at : goal.returns-in-Some-clause-at
returns-in-Some-clause-at g c = (c.in-Some.kept.now, sym c.in-Some.ensures.entry ∙ ap (λ v. Some (v, c.in-Some.kept.now)) (same_vertex c.in-Some.at.now c.vertex.result (sym c.if-eq.ensures) ∙ c.vertex.ensures))

pub returns-in-Some-clause-had : goal.returns-in-Some-clause-had
returns-in-Some-clause-had g c =
    c.is_some.ensures ∙ ap is_some (sym (found_at c.args.entries.now.entries c.in-Some.at.now c.args.vertex.now c.in-Some.kept.now c.in-Some.ensures.value (same_vertex c.in-Some.at.now c.vertex.result (sym c.if-eq.ensures) ∙ c.vertex.ensures)))
