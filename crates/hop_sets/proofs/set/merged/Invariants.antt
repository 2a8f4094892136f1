use Rattle.std.proofs.Common.{◌≡◌, ◌≤◌, ◌+◌, ◌++◌, length, true}
use Rattle.std.specs.Set.{sorted_merge}
use Rattle.ospf_types.specs.Hops.{hop_cmp}
use Rattle.hop_sets.proofs.set.merged.Given as goal

abbrev pub invariant-loop-left : goal.invariant-loop-left
invariant-loop-left l = record {
  merged : l.all.items ++ sorted_merge hop_cmp true l.left l.right ≡ sorted_merge hop_cmp true l.initial.left l.initial.right;
  few : length l.all.items + (length l.left + length l.right) ≤ length l.initial.left + length l.initial.right;
  room : 2 ≤ l.all.capacity;
}

abbrev pub decreases-loop-left : goal.decreases-loop-left
decreases-loop-left l = length l.left + length l.right
