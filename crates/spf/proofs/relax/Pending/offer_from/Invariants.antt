use Rattle.std.proofs.Common.{take}
use Rattle.std.specs.FinMap.{get}
use Rattle.spf.specs.Offers.{OverLinks, AreMade}
use Rattle.spf.proofs.relax.Pending.offer_from.Given as goal

abbrev pub invariant-loop-link : goal.invariant-loop-link
invariant-loop-link l = AreMade (OverLinks l.root (take l.link-index l.links) l.near) (get l.distances) (get l.initial.self.queue) (get l.self.queue) l.initial.self.stale l.self.stale
