use Rattle.std.proofs.Common.{◌≡◌, length}
use Rattle.prefix_index.specs.Kept.{with_values}
use Rattle.prefix_index.proofs.index.IterIterator.next.Given as goal

abbrev pub invariant-loop-network : goal.invariant-loop-network
invariant-loop-network g l = record {
  items : l.self-inside.items.now ≡ l.initial.self-inside.items.now;
  left : with_values l.self-inside.items.now l.self-inside.left ≡ with_values l.initial.self-inside.items.now l.initial.self-inside.left;
}

abbrev pub decreases-loop-network : goal.decreases-loop-network
decreases-loop-network g l = length l.self-inside.left
