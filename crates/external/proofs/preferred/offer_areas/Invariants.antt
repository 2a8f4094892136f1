use Rattle.std.proofs.Common.{drop, Option}
use Rattle.ospf_types.specs.declared.hop.NextHop.{NextHop}
use Rattle.ospf_types.specs.Boundary.{Preference}
use Rattle.route_choice.specs.Choices.{Chosen}
use Rattle.route_choice.specs.Takes.{OfferedBySome}
use Rattle.external.specs.Choosing.{TakesHops}
use Rattle.external.specs.AsbrRoute.{ReachedOffers}
use Rattle.external.proofs.preferred.offer_areas.Given as goal

-- who takes the offers of the areas that are left has taken them all
abbrev pub invariant-loop-area : goal.invariant-loop-area
invariant-loop-area l =
    (new : Option (Chosen Preference NextHop)) → TakesHops (OfferedBySome (drop l.area-index l.inputs.areas) (ReachedOffers l.inputs l.router)) l.best new → TakesHops (OfferedBySome l.inputs.areas (ReachedOffers l.inputs l.router)) l.initial.best new
