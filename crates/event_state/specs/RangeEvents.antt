-- The ranges of an area, and what refuses an event that sets or drops one of them (RFC 2328, 3.5
-- and C.2).
use Rattle.std.specs.Prelude.{ℕ, ◌==◌, ◌&&◌, Bool, not, nat_le, List, [], ◌∷◌, length, Option, if◌then◌else◌}
use Rattle.ospf_types.specs.FirstOf.{first_of}
use Rattle.ospf_types.specs.declared.config.AreaConfig.{AreaConfig}
use Rattle.ospf_types.specs.declared.config.Config.{Config}
use Rattle.ospf_types.specs.declared.config.Range.{Range}
use Rattle.ospf_types.specs.declared.prefix.Prefix.{Prefix}
use Rattle.ospf_types.specs.RangeChanges.{has_range, set_range, drop_range, with_others, with_ranges}
use Rattle.ospf_types.specs.Overlaps.{overlaps_another}
use Rattle.event_state.specs.declared.refusal.Refusal.{Refusal}
use Rattle.event_state.specs.declared.refusal.Refusal.TheVariants as refusal
use Rattle.event_state.specs.declared.ranges.RangeChange.{RangeChange}
use Rattle.event_state.specs.declared.ranges.RangeChange.TheVariants as change

-- an area has at most this many ranges
abbrev pub most_ranges : ℕ
most_ranges = 32

-- the ranges of the area with this Area ID, empty if it is not configured
abbrev pub ranges_of : List AreaConfig → ℕ → List Range
ranges_of [] id = []
ranges_of (a ∷ areas) id = if a.id == id then a.ranges else ranges_of areas id

-- there is no room for one more range, and the prefix would be one more
abbrev pub is_one_too_many : Prefix → List Range → Bool
is_one_too_many p ranges = not (has_range p ranges) && nat_le most_ranges (length ranges)

-- the refusal of a range that is to be set among these
abbrev pub set_refusal_of : Range → List Range → Option Refusal
set_refusal_of r ranges = first_of ((overlaps_another r ranges, refusal.RangeOverlaps) ∷ (is_one_too_many r.prefix ranges, refusal.RangeFull) ∷ [])

-- what refuses to drop the one of these ranges that has the prefix
abbrev pub drop_refusal_of : Prefix → List Range → Option Refusal
drop_refusal_of p ranges = first_of ((not (has_range p ranges), refusal.NoRange) ∷ [])

-- the configuration, where the ranges of the area are changed so
abbrev pub with_changed_ranges : Config → ℕ → (List Range → List Range) → Config
with_changed_ranges c id change = record c { areas = with_ranges c.areas id change }

-- what becomes of the ranges of an area
abbrev pub changed_ranges : RangeChange → List Range → List Range
changed_ranges (change.Set range) ranges = set_range range ranges
changed_ranges (change.Drop prefix) ranges = drop_range prefix ranges

-- what becomes of one of the areas
abbrev pub changed_area : ℕ → (List Range → List Range) → AreaConfig → AreaConfig
changed_area id change a = if a.id == id then with_others a (change a.ranges) else a
