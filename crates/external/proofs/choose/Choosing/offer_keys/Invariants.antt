use Rattle.std.proofs.Common.{drop, Option}
use Rattle.std.specs.FinMap as map
use Rattle.ospf_types.specs.declared.hop.Path.{Path}
use Rattle.ospf_types.specs.External.{ExternalPreference}
use Rattle.route_choice.specs.Choices.{Chosen}
use Rattle.route_choice.specs.Takes.{OfferedBySome}
use Rattle.external.specs.Choosing.{TakesPaths, KeyOffers}
use Rattle.external.proofs.choose.Choosing.offer_keys.Given as goal

-- who takes what is offered under the keys that are left has taken all
abbrev pub invariant-loop-key : goal.invariant-loop-key
invariant-loop-key l =
    (new : Option (Chosen ExternalPreference Path)) → TakesPaths (OfferedBySome (drop l.key-index l.keys) (KeyOffers l.self.index.now.routes (map.from_entries l.self.preferred.now.entries) (map.from_entries l.self.forwards.now.entries))) l.best new → TakesPaths (OfferedBySome l.keys (KeyOffers l.self.index.now.routes (map.from_entries l.self.preferred.now.entries) (map.from_entries l.self.forwards.now.entries))) l.initial.best new
