-- The prefix belongs to an active range where one that is still to come has a network.
use Rattle.active_ranges.proofs.Activity.{AreLeft}
use Rattle.active_ranges.proofs.active.ActiveRanges.contains.Given as goal

abbrev pub invariant-loop-range : goal.invariant-loop-range
invariant-loop-range l = AreLeft l.self l.prefix l.range-iterator
