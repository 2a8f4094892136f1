-- So far the prefixes of ranges up to here are listed.
use Rattle.active_ranges.proofs.Activity.{AreListed}
use Rattle.active_ranges.proofs.active.ActiveRanges.prefixes.Given as goal

abbrev pub invariant-loop-range : goal.invariant-loop-range
invariant-loop-range l = AreListed l.initial.range-iterator l.prefixes.items l.range-iterator
