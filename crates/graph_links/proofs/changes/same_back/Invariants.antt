-- So far the two are the same.
use Rattle.std.proofs.Common.{◌≡◌, ◌≤◌, ◌-◌, length, drop}
use Rattle.graph_links.proofs.changes.same_back.Given as goal

abbrev pub invariant-loop-same : goal.invariant-loop-same
invariant-loop-same l = record {
  within_one : l.same ≤ length l.one;
  within_other : l.same ≤ length l.other;
  same : drop (length l.one - l.same) l.one ≡ drop (length l.other - l.same) l.other;
}

abbrev pub decreases-loop-same : goal.decreases-loop-same
decreases-loop-same l = length l.one - l.same
