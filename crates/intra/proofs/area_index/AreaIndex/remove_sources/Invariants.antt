use Rattle.std.proofs.Common.{◌≡◌, take}
use Rattle.intra.specs.IndexSteps.{AreOffersGone, IsPrefixOf}
use Rattle.intra.proofs.area_index.AreaIndex.remove_sources.Given as goal

-- the vertex no longer offers the prefixes of the offers so far
abbrev pub invariant-loop-offer : goal.invariant-loop-offer
invariant-loop-offer l =
    (l.self.offered ≡ l.initial.self.offered) × AreOffersGone (IsPrefixOf l.vertex (take l.offer-index l.offers)) l.initial.self l.self
