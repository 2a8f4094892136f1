use Rattle.std.proofs.Common.{◌≡◌, ◌++◌, drop}
use Rattle.explanation.specs.Networks.{offers_in_areas}
use Rattle.explanation.specs.Offers.{is_wanted}
use Rattle.explanation.proofs.all_offers.add_areas.Given as goal

-- the offers so far, and those of the areas that are left, are all offers
abbrev pub invariant-loop-area : goal.invariant-loop-area
invariant-loop-area l = l.offers.items ++ offers_in_areas (is_wanted l.wanted) (drop l.area-index l.areas) ≡ l.initial.offers.items ++ offers_in_areas (is_wanted l.initial.wanted) l.initial.areas
