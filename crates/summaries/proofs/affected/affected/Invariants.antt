-- So far those of the elements up to here are added.
use Rattle.std.proofs.Common.{take}
use Rattle.route_choice.specs.Lists.{GainsAll, IsOfSome}
use Rattle.summaries.specs.Touched.{IsOverIn}
use Rattle.summaries.proofs.affected.affected.Given as goal

abbrev pub invariant-loop-area : goal.invariant-loop-area
invariant-loop-area l = GainsAll (IsOfSome (take l.area-index l.areas) (λ a. IsOverIn a.ranges l.dests)) l.initial.found.items l.found.items
