-- No area up to here has such a range.
use Rattle.std.proofs.Common.{take}
use Rattle.active_ranges.proofs.Searching.{HasNone}
use Rattle.due_explanation.specs.Sources.{HasRangeAround}
use Rattle.due_explanation.proofs.area_ranges.range_around.Given as goal

abbrev pub invariant-loop-area : goal.invariant-loop-area
invariant-loop-area l = HasNone (HasRangeAround l.id l.network) (take l.area-index l.areas)
