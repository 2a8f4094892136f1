use Rattle.std.proofs.Common.{◌≡◌, take}
use Rattle.event_state.proofs.ranges.ranges_differ.Given as goal

abbrev pub invariant-loop-i : goal.invariant-loop-i
invariant-loop-i l = take l.i l.new ≡ take l.i l.areas
