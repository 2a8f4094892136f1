-- So far the two are the same.
use Rattle.std.proofs.Common.{◌≡◌, ◌≤◌, length, take}
use Rattle.graph_links.proofs.changes.same_front.Given as goal

abbrev pub invariant-loop-place : goal.invariant-loop-place
invariant-loop-place l = record {
  within : l.place ≤ length l.other;
  same : take l.place l.one ≡ take l.place l.other;
}
