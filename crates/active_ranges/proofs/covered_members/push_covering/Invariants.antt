-- So far those of the destinations up to here are added.
use Rattle.std.proofs.Common.{take}
use Rattle.route_choice.specs.Lists.{IsOfSome}
use Rattle.active_ranges.specs.Following.{HasMore, IsNamedAs}
use Rattle.active_ranges.proofs.covered_members.push_covering.Given as goal

abbrev pub invariant-loop-dest : goal.invariant-loop-dest
invariant-loop-dest l = HasMore (IsOfSome (take l.dest-index l.dests) (IsNamedAs l.range)) l.initial.members.items l.members.items
