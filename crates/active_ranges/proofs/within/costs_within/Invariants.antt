-- So far those of the networks up to here are added.
use Rattle.std.proofs.Common.{[], take}
use Rattle.std.specs.Map.{keys_of}
use Rattle.route_choice.specs.Lists.{IsOfSome}
use Rattle.active_ranges.specs.Following.{HasMore}
use Rattle.active_ranges.proofs.Inside.{IsOfNetwork}
use Rattle.active_ranges.proofs.within.costs_within.Given as goal

abbrev pub invariant-loop-place : goal.invariant-loop-place
invariant-loop-place l = HasMore (IsOfSome (take l.place (keys_of l.entries)) (IsOfNetwork l.intra.entries l.area l.range)) [] l.costs.items
