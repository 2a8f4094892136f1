-- So far those of the ranges up to here are added.
use Rattle.std.proofs.Common.{take}
use Rattle.route_choice.specs.Lists.{IsOfSome}
use Rattle.active_ranges.specs.Following.{HasMore, IsNamedOf}
use Rattle.active_ranges.proofs.Naming.{one_range}
use Rattle.active_ranges.proofs.covered_members.push_named.Given as goal

abbrev pub invariant-loop-range : goal.invariant-loop-range
invariant-loop-range l = HasMore (IsOfSome (take l.range-index l.range-items) (λ r. IsNamedOf (one_range l.area.id r) l.dests)) l.initial.members.items l.members.items
