use Rattle.std.proofs.Common.{◌≡◌, ◌++◌}
use Rattle.event_state.specs.Listings.{lsas_of_areas}
use Rattle.event_core.proofs.listing.add_areas.Given as goal

-- what was found, and what the areas that are left have, is what all areas have
abbrev pub invariant-loop-id : goal.invariant-loop-id
invariant-loop-id l = l.found.items ++ lsas_of_areas l.state l.id-iterator ≡ l.initial.found.items ++ lsas_of_areas l.initial.state l.initial.id-iterator
