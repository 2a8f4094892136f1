use Rattle.std.proofs.Common.{◌≡◌, ◌++◌, drop}
use Rattle.explanation.specs.Offers.{is_wanted, offers_among}
use Rattle.explanation.proofs.offers.OfferQuery.add_offers.Given as goal

-- the offers so far, and those of the LSAs that are left, are all offers
abbrev pub invariant-loop-lsa : goal.invariant-loop-lsa
invariant-loop-lsa l = l.offers.items ++ offers_among (is_wanted l.self.wanted) l.self.scope (drop l.lsa-index l.lsas)
    ≡ l.initial.offers.items ++ offers_among (is_wanted l.initial.self.wanted) l.initial.self.scope l.initial.lsas
