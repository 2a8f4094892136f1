use Rattle.std.proofs.Common.{ℕ, drop, Option}
use Rattle.ospf_types.specs.declared.hop.Path.{Path}
use Rattle.route_choice.specs.Choices.{Chosen}
use Rattle.route_choice.specs.Takes.{OfferedBySome}
use Rattle.inter.specs.Choosing.{TakesPaths, KeyOffers}
use Rattle.inter.proofs.choose.AreaOffers.offer_keys.Given as goal

-- who takes what is advertised under the keys that are left has taken it all
abbrev pub invariant-loop-key : goal.invariant-loop-key
invariant-loop-key l =
    (new : Option (Chosen ℕ Path)) → TakesPaths (OfferedBySome (drop l.key-index l.keys) (KeyOffers l.self.intra.now.areas l.self.area l.self.index.now)) l.best new → TakesPaths (OfferedBySome l.keys (KeyOffers l.self.intra.now.areas l.self.area l.self.index.now)) l.initial.best new
