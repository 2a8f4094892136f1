use Rattle.std.proofs.Common.{ℕ, ◌≢◌, ◌<◌, ◌≤◌, ◌-◌, length, slice_index}
use Rattle.prefix_index.specs.Slots.{IsSlotPlaced}
use Rattle.prefix_index.proofs.slots.slot_of.Given as goal

abbrev pub invariant-loop-slot : goal.invariant-loop-slot
invariant-loop-slot l = record {
  after : l.home ≤ l.slot;
  placed : IsSlotPlaced l.numbers l.slot l.number;
  filled : (q : ℕ) → l.home ≤ q → q < l.slot → slice_index l.numbers q ≢ 0;
}

abbrev pub decreases-loop-slot : goal.decreases-loop-slot
decreases-loop-slot l = length l.numbers - l.slot
