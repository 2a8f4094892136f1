use Rattle.std.proofs.Common.{◌≡◌, ◌++◌}
use Rattle.std.specs.List.{filter_map}
use Rattle.explanation.specs.Offers.{is_wanted, stub_if}
use Rattle.explanation.proofs.offers.OfferQuery.add_stubs.Given as goal

-- the offers so far, and those of the links that are left, are all offers
abbrev pub invariant-loop-link : goal.invariant-loop-link
invariant-loop-link l = l.offers.items ++ filter_map (stub_if (is_wanted l.self.wanted) l.self.scope l.lsa) l.link-iterator
    ≡ l.initial.offers.items ++ filter_map (stub_if (is_wanted l.initial.self.wanted) l.initial.self.scope l.initial.lsa) l.initial.link-iterator
