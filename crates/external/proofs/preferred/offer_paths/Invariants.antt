use Rattle.std.proofs.Common.{drop, Option}
use Rattle.ospf_types.specs.declared.hop.NextHop.{NextHop}
use Rattle.ospf_types.specs.declared.hop.Path.{Path}
use Rattle.ospf_types.specs.Boundary.{Preference}
use Rattle.route_choice.specs.Choices.{Chosen}
use Rattle.route_choice.specs.Takes.{OnlyOffer, OfferedBySome}
use Rattle.external.specs.Choosing.{TakesHops}
use Rattle.external.proofs.preferred.offer_paths.Given as goal

-- who takes the offers of the paths that are left has taken them all
abbrev pub invariant-loop-path : goal.invariant-loop-path
invariant-loop-path l =
    (new : Option (Chosen Preference NextHop)) → TakesHops (OfferedBySome (drop l.path-index l.paths) (λ (path : Path). OnlyOffer l.key path.hop)) l.best new → TakesHops (OfferedBySome l.paths (λ (path : Path). OnlyOffer l.key path.hop)) l.initial.best new
