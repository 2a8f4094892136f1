use Rattle.prefix_index.specs.Slots.{AreHomesFew}
use Rattle.prefix_index.proofs.slots.bits_for.Given as goal

abbrev pub invariant-loop-bits : goal.invariant-loop-bits
invariant-loop-bits l = AreHomesFew l.bits l.count
