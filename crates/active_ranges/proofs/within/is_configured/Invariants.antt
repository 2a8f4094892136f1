-- No area up to here is the one and has the range.
use Rattle.std.proofs.Common.{take}
use Rattle.active_ranges.proofs.Searching.{HasNone}
use Rattle.active_ranges.proofs.Inside.{HasRange}
use Rattle.active_ranges.proofs.within.is_configured.Given as goal

abbrev pub invariant-loop-area : goal.invariant-loop-area
invariant-loop-area l = HasNone (HasRange l.id l.prefix) (take l.area-index l.areas)
