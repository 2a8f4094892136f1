-- Who takes the offers of the sources that are left has taken them all; the network that was found
-- is the nearest so far, at a distance of the tree.
use Rattle.std.proofs.Common.{◌<◌, drop, take, Option}
use Rattle.std.specs.Prelude.{IfSome}
use Rattle.ospf_types.specs.declared.hop.Path.{Path}
use Rattle.ospf_types.specs.declared.prefix.Prefix.{Prefix}
use Rattle.ospf_types.specs.Intra.{AreaCost}
use Rattle.route_choice.specs.Choices.{Chosen}
use Rattle.route_choice.specs.Takes.{OfferedBySome}
use Rattle.spf.specs.Maps.{most_distance}
use Rattle.intra.specs.Choosing.{TakesPaths, AmongSources, ThisSource, KeyedStubs, FindsNearest}
use Rattle.intra.proofs.choose.offer_sources.Given as goal

abbrev pub invariant-loop-source : goal.invariant-loop-source
invariant-loop-source l = record {
  offered : (new : Option (Chosen AreaCost Path)) → TakesPaths (OfferedBySome (drop l.source-index l.sources) (λ s. KeyedStubs (ThisSource s) l.network.inputs.now l.network.area.now l.network.prefix)) l.best new → TakesPaths (OfferedBySome l.sources (λ s. KeyedStubs (ThisSource s) l.network.inputs.now l.network.area.now l.network.prefix)) l.initial.best new;
  found : (p : Prefix) → FindsNearest (AmongSources (take l.source-index l.sources)) l.network.area.now p l.nearest;
  bounded : IfSome l.nearest (λ n. n.distance < most_distance);
}
