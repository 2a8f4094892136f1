use Rattle.std.proofs.Common.{◌≤◌}
use Rattle.lookup_speed.proofs.ordered.OrderedMapLookupTable.longest.Given as goal

abbrev pub invariant-loop-network : goal.invariant-loop-network
invariant-loop-network l = l.length ≤ 32

abbrev pub decreases-loop-network : goal.decreases-loop-network
decreases-loop-network l = l.length
