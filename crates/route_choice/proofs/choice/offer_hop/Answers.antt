use Rattle.std.proofs.Common.{OnOk, Ordering, subst}
use Rattle.ospf_types.specs.declared.hop.Path.{Path}
use Rattle.ospf_types.proofs.Paths.{path_cmp_is}
use Rattle.route_choice.specs.Takes.{TakesOffers, OnlyOffer, path_over}
use Rattle.route_choice.proofs.choice.offer_hop.Goals as goal

pub returns : goal.returns
returns g c =
    subst (λ (S : Path → Path → Ordering). OnOk c.offer.result (TakesOffers g.K.Ord.cmp S (OnlyOffer c.args.key (path_over c.args.advertiser c.args.hop)) c.args.best.now c.offer.new.self)) path_cmp_is c.offer.ensures.ok
