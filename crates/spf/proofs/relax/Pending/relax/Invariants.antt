use Rattle.std.proofs.Common.{◌≡◌, ◌-◌, ◌<◌, ◌^◌, length}
use Rattle.std.specs.FinMap.{len}
use Rattle.spf.proofs.Nearest.{AreSought}
use Rattle.spf.proofs.relax.Pending.relax.Given as goal

abbrev pub invariant-loop-vertex : goal.invariant-loop-vertex
invariant-loop-vertex l = record {
  sought : AreSought l.after.graph.now l.after.came.now l.initial.distances l.fn.self.stale l.distances l.self.queue l.moved l.self.stale;
  counted : l.touched ≡ record { taken = length l.moved; hop_sets = 0 };
  small : length l.moved < 2 ^ 63;
}

abbrev pub decreases-loop-vertex : goal.decreases-loop-vertex
decreases-loop-vertex l = len l.after.graph.now.ends - length l.moved
