-- So far the prefixes of the ranges up to here are added.
use Rattle.std.proofs.Common.{take}
use Rattle.route_choice.specs.Lists.{GainsAll}
use Rattle.summaries.specs.Touched.{IsOverIn}
use Rattle.summaries.proofs.affected.push_ranges_of.Given as goal

abbrev pub invariant-loop-range : goal.invariant-loop-range
invariant-loop-range l = GainsAll (IsOverIn (take l.range-index l.range-items) l.dests) l.initial.found.items l.found.items
