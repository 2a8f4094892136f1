use Rattle.std.proofs.Common.{drop, Option}
use Rattle.ospf_types.specs.declared.hop.Path.{Path}
use Rattle.ospf_types.specs.Hops.{path_cmp}
use Rattle.route_choice.specs.Choices.{Chosen}
use Rattle.route_choice.specs.Takes.{HopsOffer, TakesOffers}
use Rattle.route_choice.proofs.choice.offer_hops.Given as goal

-- who takes the offers of the next hops that are left has taken them all
abbrev pub invariant-loop-hop : goal.invariant-loop-hop
invariant-loop-hop g l =
    (new : Option (Chosen g.row.K.Denot Path)) → TakesOffers g.K.Ord.cmp path_cmp (HopsOffer (drop l.hop-index l.hops) l.advertiser l.key) l.best new
    → TakesOffers g.K.Ord.cmp path_cmp (HopsOffer l.hops l.advertiser l.key) l.initial.best new
