-- The networks up to here are weighed.
use Rattle.std.proofs.Common.{drop}
use Rattle.active_ranges.proofs.Weighing.{AreWeighed}
use Rattle.active_ranges.proofs.networks.RangeNetworks.costliest.Given as goal

abbrev pub invariant-loop-cost : goal.invariant-loop-cost
invariant-loop-cost l = AreWeighed l.self l.limit l.most (drop l.cost-index l.fn.self.entries)
