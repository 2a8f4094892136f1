use Rattle.std.proofs.Common.{take}
use Rattle.spf.specs.HandedOn.{IsOfSome, IsHandedOn, IsUnion}
use Rattle.spf.proofs.gathering.add_handed_on.Given as goal

-- what the next hops so far pass on is added
abbrev pub invariant-loop-hop : goal.invariant-loop-hop
invariant-loop-hop l = IsUnion l.initial.set l.set (IsOfSome (take l.hop-index l.hop-items) (IsHandedOn l.label))
