use Rattle.std.proofs.Common.{OnOk, Ordering, subst}
use Rattle.ospf_types.specs.Boundary.{preference_cmp}
use Rattle.ospf_types.specs.declared.hop.NextHop.{NextHop}
use Rattle.ospf_types.proofs.Paths.{hop_cmp_is}
use Rattle.route_choice.specs.Takes.{TakesOffers, OnlyOffer}
use Rattle.external.proofs.preferred.offer_hop.Goals as goal

pub returns : goal.returns
returns c =
    subst (λ (S : NextHop → NextHop → Ordering). OnOk c.offer.result (TakesOffers preference_cmp S (OnlyOffer c.args.key c.args.hop) c.args.best.now c.offer.new.self)) hop_cmp_is c.offer.ensures.ok
