use Rattle.prefix_index.proofs.Adding.{AreAdded}
use Rattle.prefix_index.proofs.slots.Slots.of.Given as goal

abbrev pub invariant-loop-place : goal.invariant-loop-place
invariant-loop-place g l = AreAdded l.fn.hashing l.fn.entries l.slots l.place
