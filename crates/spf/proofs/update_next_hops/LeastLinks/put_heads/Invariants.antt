use Rattle.std.proofs.Common.{take}
use Rattle.std.specs.FinMap.{get}
use Rattle.spf.specs.HandedOn.{IsOfSome, ArePut, IsHeadOver}
use Rattle.spf.proofs.update_next_hops.LeastLinks.put_heads.Given as goal

-- the heads of the links so far wait
abbrev pub invariant-loop-link : goal.invariant-loop-link
invariant-loop-link l = ArePut (get l.self.distances.now) (IsOfSome (take l.link-index l.link-items) (IsHeadOver l.root (get l.self.distances.now))) (get l.initial.queue) (get l.queue)
