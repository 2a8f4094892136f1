use Rattle.std.proofs.Common.{ℕ, ◌≢◌, ◌<◌, ◌≤◌, ◌-◌, length, slice_index}
use Rattle.prefix_index.proofs.slots.free_from.Given as goal

abbrev pub invariant-loop-slot : goal.invariant-loop-slot
invariant-loop-slot l = record {
  after : l.home ≤ l.slot;
  within : l.slot ≤ length l.numbers;
  filled : (q : ℕ) → l.home ≤ q → q < l.slot → slice_index l.numbers q ≢ 0;
}

abbrev pub decreases-loop-slot : goal.decreases-loop-slot
decreases-loop-slot l = length l.numbers - l.slot
