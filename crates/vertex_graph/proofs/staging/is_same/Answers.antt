use Rattle.std.proofs.Common.{Bor, List, Some, sym, ap, ◌∙◌}
use Rattle.std.specs.Prelude.{option_map}
use Rattle.graph_links.specs.declared.link_end.LinkEnd.{LinkEnd}
use Rattle.vertex_graph.proofs.HandedIn.{same_ends}
use Rattle.vertex_graph.proofs.staging.is_same.Goals as goal

pub returns-in-Some-Some : goal.returns-in-Some-Some
returns-in-Some-Some c same =
    let both = c.in-Some-Some in
    ap (option_map (λ (b : Bor (List LinkEnd)). b.now)) both.is-0 ∙ ap Some (same_ends both.before.now both.after.now (sym c.eq.ensures ∙ same)) ∙ sym (ap (option_map (λ (b : Bor (List LinkEnd)). b.now)) both.is-1)
