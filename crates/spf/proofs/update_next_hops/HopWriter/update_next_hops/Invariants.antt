use Rattle.std.proofs.Common.{◌+◌, ◌-◌}
use Rattle.std.specs.FinMap.{get, len}
use Rattle.spf.specs.HandedOn.{IsAmidst}
use Rattle.spf.specs.Parts.{hops_of}
use Rattle.spf.proofs.update_next_hops.HopWriter.update_next_hops.Given as goal

-- what was taken, what was written and what waits
abbrev pub invariant-loop-vertex : goal.invariant-loop-vertex
invariant-loop-vertex l = IsAmidst l.relaxed.graph.now (get l.relaxed.distances.now) (hops_of l.initial.hops) (hops_of l.hops) l.pending.queue l.initial.self.written l.relaxed.moved.now l.fn.pending.stale l.self.written l.initial.self.touched.taken l.self.touched.taken l.self.touched.hop_sets

-- what was not taken falls
abbrev pub decreases-loop-vertex : goal.decreases-loop-vertex
decreases-loop-vertex l = (l.initial.self.touched.taken + len l.relaxed.distances.now) - l.self.touched.taken
