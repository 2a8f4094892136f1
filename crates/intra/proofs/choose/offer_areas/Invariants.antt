use Rattle.std.proofs.Common.{Option, map}
use Rattle.std.specs.Iterator.Adapters.{zip_first, zip_second}
use Rattle.std.specs.Slice.Iter.{iter_rest}
use Rattle.ospf_types.specs.declared.hop.Path.{Path}
use Rattle.ospf_types.specs.Intra.{AreaCost}
use Rattle.route_choice.specs.Choices.{Chosen}
use Rattle.intra.specs.Choosing.{TakesPaths}
use Rattle.intra.specs.Indexes.{IndexedOffers}
use Rattle.intra.proofs.choose.offer_areas.Given as goal

-- who takes the offers of the areas that are left has taken them all
abbrev pub invariant-loop-kept : goal.invariant-loop-kept
invariant-loop-kept l =
    (new : Option (Chosen AreaCost Path)) → TakesPaths (IndexedOffers l.indexed.inputs.now (map (λ k. k.index) (iter_rest (zip_first l.kept-iterator))) (iter_rest (zip_second l.kept-iterator)) l.prefix) l.best new → TakesPaths (IndexedOffers l.indexed.inputs.now (map (λ k. k.index) l.indexed.kept.now) l.indexed.inputs.now.areas l.prefix) l.initial.best new
