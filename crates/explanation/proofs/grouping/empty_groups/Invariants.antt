use Rattle.std.proofs.Common.{take}
use Rattle.explanation.specs.Groups.{AreEmpty}
use Rattle.explanation.proofs.grouping.empty_groups.Given as goal

-- a group for each of the networks up to here
abbrev pub invariant-loop-network : goal.invariant-loop-network
invariant-loop-network l = AreEmpty (take l.network-index l.networks) l.groups.items
