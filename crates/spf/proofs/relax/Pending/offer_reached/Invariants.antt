use Rattle.std.proofs.Common.{take}
use Rattle.std.specs.FinMap.{get}
use Rattle.spf.specs.Offers.{OverReached, AreMade}
use Rattle.spf.proofs.relax.Pending.offer_reached.Given as goal

abbrev pub invariant-loop-link : goal.invariant-loop-link
invariant-loop-link l = AreMade (OverReached l.root (get l.distances) (take l.link-index l.links)) (get l.distances) (get l.initial.self.queue) (get l.self.queue) l.initial.self.stale l.self.stale
