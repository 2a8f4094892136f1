use Rattle.std.proofs.Common.{arith}
use Rattle.prefix_index.proofs.Places.{placed_here, placed_inside}
use Rattle.prefix_index.proofs.slots.probe.Goals as goal

pub returns-then-number-eq-EMPTY-clause-missing : goal.returns-then-number-eq-EMPTY-clause-missing
returns-then-number-eq-EMPTY-clause-missing g c = λ none i has placed. placed_here (c.loop-slot.invariant i has placed) (λ is. omega (arith, c.requires, is)) c.if-number-eq-EMPTY.true

pub returns-clause-missing : goal.returns-clause-missing
returns-clause-missing g c = λ none i has placed.
    let within = placed_inside (c.loop-slot.invariant i has placed) (λ is. omega (arith, c.requires, is)) in
    omega (arith, within, c.loop-slot-test.false)
