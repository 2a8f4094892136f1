use Rattle.std.proofs.Common.{◌≡◌, take}
use Rattle.intra.specs.IndexSteps.{HaveOffersCome, IsOfferOf}
use Rattle.intra.proofs.area_index.AreaIndex.add_sources.Given as goal

-- the vertex offers the prefixes of the offers so far too
abbrev pub invariant-loop-offer : goal.invariant-loop-offer
invariant-loop-offer l =
    (l.self.offered ≡ l.initial.self.offered) × HaveOffersCome (IsOfferOf l.vertex (take l.offer-index l.offers)) l.initial.self l.self
