use Rattle.std.proofs.Common.{Option}
use Rattle.ospf_types.specs.declared.hop.Path.{Path}
use Rattle.ospf_types.specs.Intra.{AreaCost}
use Rattle.route_choice.specs.Choices.{Chosen}
use Rattle.intra.specs.Choosing.{TakesPaths, InterfaceOffers}
use Rattle.route_choice.specs.Takes.{OfferedBySome}
use Rattle.intra.proofs.choose.offer_own.Given as goal

-- who takes the offers of the interfaces that are left has taken them all
abbrev pub invariant-loop-id : goal.invariant-loop-id
invariant-loop-id l =
    (new : Option (Chosen AreaCost Path)) → TakesPaths (OfferedBySome l.id-iterator (InterfaceOffers l.prefix l.key)) l.best new → TakesPaths (OfferedBySome l.fn.interfaces (InterfaceOffers l.prefix l.key)) l.initial.best new
