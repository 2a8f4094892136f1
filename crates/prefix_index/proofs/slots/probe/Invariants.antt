use Rattle.std.proofs.Common.{ℕ, ◌+◌, ◌-◌, length}
use Rattle.prefix_index.specs.Slots.{HasNetwork, IsSlotPlaced}
use Rattle.prefix_index.proofs.slots.probe.Given as goal

abbrev pub invariant-loop-slot : goal.invariant-loop-slot
invariant-loop-slot g l = (i : ℕ) → HasNetwork l.entries i l.fn.sought.network → IsSlotPlaced l.numbers l.fn.sought.home (l.fn.sought.base + i) → IsSlotPlaced l.numbers l.slot (l.fn.sought.base + i)

abbrev pub decreases-loop-slot : goal.decreases-loop-slot
decreases-loop-slot g l = length l.numbers - l.slot
