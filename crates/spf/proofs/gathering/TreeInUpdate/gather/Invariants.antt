use Rattle.std.proofs.Common.{take}
use Rattle.std.specs.FinMap.{get}
use Rattle.spf.specs.HandedOn.{IsOfSome, IsGivenOver, IsUnion}
use Rattle.spf.specs.Parts.{hops_of}
use Rattle.spf.proofs.gathering.TreeInUpdate.gather.Given as goal

-- what the links so far give is added
abbrev pub invariant-loop-link : goal.invariant-loop-link
invariant-loop-link l = IsUnion l.initial.set l.set (IsOfSome (take l.link-index l.link-items) (IsGivenOver l.root (get l.self.distances.now) (hops_of l.self.hops.now)))
