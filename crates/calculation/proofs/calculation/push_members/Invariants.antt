use Rattle.std.proofs.Common.{◌≡◌, ◌++◌, map, take}
use Rattle.ospf_types.specs.declared.key.Dest.TheVariants.{Net}
use Rattle.active_ranges.specs.declared.member.RangeMember.{RangeMember}
use Rattle.calculation.proofs.calculation.push_members.Given as goal

abbrev pub invariant-loop-member : goal.invariant-loop-member
invariant-loop-member l = l.dests.items ≡ l.fn.dests.items ++ map (λ (m : RangeMember). Net m.network) (take l.member-index l.members)
