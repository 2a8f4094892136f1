-- So far the destinations up to here were added.
use Rattle.std.proofs.Common.{take}
use Rattle.inter.specs.Following.{ArePushed}
use Rattle.inter.proofs.follow.push_named.Given as goal

abbrev pub invariant-loop-dest : goal.invariant-loop-dest
invariant-loop-dest l = ArePushed l.index (take l.dest-index l.named) l.initial.dests.items l.dests.items
