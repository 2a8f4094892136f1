-- This many were added.
use Rattle.std.proofs.Common.{ℕ, map, take}
use Rattle.active_ranges.specs.Grouped.{AreMadeOf}
use Rattle.active_ranges.specs.declared.member.RangeMember.{RangeMember}
use Rattle.active_ranges.proofs.networks.RangeNetworks.of.Given as goal

abbrev pub invariant-loop-member : goal.invariant-loop-member
invariant-loop-member l = AreMadeOf (map (λ (x : RangeMember × ℕ). (x.0.network, x.1)) (take l.member-index l.costs)) l.networks
