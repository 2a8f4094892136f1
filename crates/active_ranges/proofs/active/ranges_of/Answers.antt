-- The prefixes of all members.
use Rattle.std.proofs.Common.{List, subst}
use Rattle.std.specs.Prelude.{◌↔◌}
use Rattle.std.specs.List.{Contains}
use Rattle.ospf_types.specs.declared.prefix.Prefix.{Prefix}
use Rattle.active_ranges.proofs.active.ranges_of.Goals as goal

pub returns-clause-exact : goal.returns-clause-exact
returns-clause-exact c = λ p. subst (λ (ps : List Prefix). Contains c.sorted_unique.result.items p ↔ Contains ps p) c.in_ok-prefixes.ensures (c.sorted_unique.ensures.same p)
