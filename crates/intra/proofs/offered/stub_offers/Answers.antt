-- Sorted, and each kept once.
use Rattle.std.proofs.Common.{List, subst}
use Rattle.std.specs.Prelude.{◌↔◌, Contains}
use Rattle.intra.specs.declared.offered.OfferedPrefix.{OfferedPrefix}
use Rattle.intra.proofs.OfferTests.{offer_total, offer_exact, offers_order, once_in_order}
use Rattle.route_choice.proofs.SortedOnce.{strictly, same_items}
use Rattle.intra.proofs.offered.stub_offers.Goals as goal

pub returns-clause-exact : goal.returns-clause-exact
returns-clause-exact c o =
    subst (λ (all : List OfferedPrefix). Contains c.dedup.new.self.items o ↔ Contains all o) c.in_ok-offers.ensures
    (same_items offer_total offer_exact offers_order c.in_ok-offers.offers.items c.sort_unstable.new.self.items c.dedup.new.self.items c.sort_unstable.ensures.permutation c.sort_unstable.ensures.sorted c.dedup.ensures.filtered o)

pub returns-clause-each_once : goal.returns-clause-each_once
returns-clause-each_once c =
    once_in_order c.dedup.new.self.items
    (strictly offer_total offer_exact offers_order c.in_ok-offers.offers.items c.sort_unstable.new.self.items c.dedup.new.self.items c.sort_unstable.ensures.permutation c.sort_unstable.ensures.sorted c.dedup.ensures.filtered)
