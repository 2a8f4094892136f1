-- No area up to here is the one and has the network in a range.
use Rattle.std.proofs.Common.{take}
use Rattle.active_ranges.proofs.Searching.{HasNone}
use Rattle.summaries.proofs.GivenParts.{HasInRange}
use Rattle.summaries.proofs.giving.is_outside.Given as goal

abbrev pub invariant-loop-area : goal.invariant-loop-area
invariant-loop-area l = HasNone (HasInRange l.id l.network) (take l.area-index l.areas)
