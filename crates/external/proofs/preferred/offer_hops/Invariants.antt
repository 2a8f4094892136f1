use Rattle.std.proofs.Common.{drop, Option}
use Rattle.ospf_types.specs.declared.hop.NextHop.{NextHop}
use Rattle.ospf_types.specs.Boundary.{Preference}
use Rattle.route_choice.specs.Choices.{Chosen}
use Rattle.external.specs.Choosing.{TakesHops, HopsOffer}
use Rattle.external.proofs.preferred.offer_hops.Given as goal

-- who takes the offers of the next hops that are left has taken them all
abbrev pub invariant-loop-hop : goal.invariant-loop-hop
invariant-loop-hop l =
    (new : Option (Chosen Preference NextHop)) → TakesHops (HopsOffer (drop l.hop-index l.hops) l.key) l.best new → TakesHops (HopsOffer l.hops l.key) l.initial.best new
