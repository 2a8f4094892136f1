-- What becomes of an area's ranges if one is set or dropped (RFC 2328, 3.5), and what stays.
use Rattle.std.specs.Prelude.{ℕ, ◌==◌, ◌&&◌, Bool, not, List, [], ◌∷◌, map, filter, if◌then◌else◌}
use Rattle.std.specs.List.{list_any}
use Rattle.std.specs.Ordering.{is_lt}
use Rattle.ospf_types.specs.declared.config.AreaConfig.{AreaConfig}
use Rattle.ospf_types.specs.declared.config.Config.{Config}
use Rattle.ospf_types.specs.declared.config.Range.{Range}
use Rattle.ospf_types.specs.declared.prefix.Prefix.{Prefix}
use Rattle.ospf_types.specs.Network.{network_cmp}

abbrev pub is_same_prefix : Prefix → Prefix → Bool
is_same_prefix p q = (p.address == q.address) && (p.length == q.length)

-- a range has the prefix
abbrev pub has_range : Prefix → List Range → Bool
has_range p ranges = list_any (λ r. is_same_prefix p r.prefix) ranges

-- the range, if the other has its prefix; else the other
abbrev pub in_place : Range → Range → Range
in_place r other = if is_same_prefix r.prefix other.prefix then r else other

-- the range, and after it the first that is greater, by address and then by length
abbrev pub in_order : Range → List Range → List Range
in_order r [] = r ∷ []
in_order r (other ∷ ranges) = if is_lt (network_cmp r.prefix other.prefix) then r ∷ other ∷ ranges else other ∷ in_order r ranges

-- A range replaces the one with its prefix; if there is none, it comes in order.
abbrev pub set_range : Range → List Range → List Range
set_range r ranges = if has_range r.prefix ranges then map (in_place r) ranges else in_order r ranges

-- the ranges without the one that has the prefix
abbrev pub drop_range : Prefix → List Range → List Range
drop_range p ranges = filter (λ r. not (is_same_prefix p r.prefix)) ranges

-- an area with other ranges
abbrev pub with_others : AreaConfig → List Range → AreaConfig
with_others a ranges = record a { ranges = ranges }

-- the areas, of which the one with this Area ID has its ranges changed so
abbrev pub with_ranges : List AreaConfig → ℕ → (List Range → List Range) → List AreaConfig
with_ranges areas id change = map (λ (a : AreaConfig). if a.id == id then with_others a (change a.ranges) else a) areas

-- ---- what stays

-- the areas without their ranges
abbrev pub areas_without_ranges : List AreaConfig → List AreaConfig
areas_without_ranges areas = map (λ (a : AreaConfig). with_others a []) areas

abbrev pub without_ranges : Config → Config
without_ranges c = record c { areas = areas_without_ranges c.areas }
