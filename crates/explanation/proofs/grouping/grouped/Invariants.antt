use Rattle.std.proofs.Common.{take}
use Rattle.explanation.specs.Groups.{AreGroups}
use Rattle.explanation.proofs.grouping.grouped.Given as goal

-- the offers up to here are in their groups
abbrev pub invariant-loop-offer : goal.invariant-loop-offer
invariant-loop-offer l = AreGroups l.networks (take l.offer-index l.offers) l.groups.items
