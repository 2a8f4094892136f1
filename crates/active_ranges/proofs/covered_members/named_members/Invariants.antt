-- So far those of the areas up to here are added.
use Rattle.std.proofs.Common.{[], take}
use Rattle.route_choice.specs.Lists.{IsOfSome}
use Rattle.active_ranges.specs.Following.{HasMore, IsNamedIn}
use Rattle.active_ranges.proofs.covered_members.named_members.Given as goal

abbrev pub invariant-loop-area : goal.invariant-loop-area
invariant-loop-area l = HasMore (IsOfSome (take l.area-index l.areas) (λ a. IsNamedIn a l.dests)) [] l.members.items
