-- The faults of a configuration (RFC 2328, 3.5, 3.6 and C.2).
use Rattle.std.specs.Prelude.{◌==◌, ◌&&◌, ◌||◌, Bool, false, nat_lt, nat_le, List, [], ◌∷◌, length, Option, Some, None, is_some}
use Rattle.std.specs.List.{list_any}
use Rattle.ospf_types.specs.declared.config.Config.{Config}
use Rattle.ospf_types.specs.declared.config.AreaConfig.{AreaConfig}
use Rattle.ospf_types.specs.declared.config.Stub.{Stub}
use Rattle.ospf_types.specs.declared.config.Range.{Range}
use Rattle.ospf_types.specs.declared.prefix.Prefix.{Prefix}
use Rattle.ospf_types.specs.Masks.{masked}
use Rattle.ospf_types.specs.Inter.{LSInfinity}
use Rattle.ospf_types.specs.declared.fault.ConfigFault.{ConfigFault}
use Rattle.ospf_types.specs.declared.fault.ConfigFault.TheVariants as fault
use Rattle.ospf_types.specs.FirstOf.{first_of}

-- two areas have one Area ID
abbrev pub has_alike : List AreaConfig → Bool
has_alike [] = false
has_alike (a ∷ areas) = list_any (λ b. b.id == a.id) areas || has_alike areas

-- none, more than 16, or two with one Area ID
abbrev pub has_wrong_areas : List AreaConfig → Bool
has_wrong_areas areas = (length areas == 0) || (nat_lt 16 (length areas) || has_alike areas)

-- the outer network covers the inner one
abbrev pub is_cover : Prefix → Prefix → Bool
is_cover outer inner = nat_le outer.length inner.length && (masked inner.address outer.length == outer.address)

-- one of the two ranges covers the other
abbrev pub is_overlap : Range → Range → Bool
is_overlap a b = is_cover a.prefix b.prefix || is_cover b.prefix a.prefix

-- two ranges overlap
abbrev pub has_overlap : List Range → Bool
has_overlap [] = false
has_overlap (a ∷ ranges) = list_any (is_overlap a) ranges || has_overlap ranges

abbrev pub is_stub_backbone : AreaConfig → Bool
is_stub_backbone a = (a.id == 0) && is_some a.stub

-- the default cost is LSInfinity or more
abbrev pub is_costly : Option Stub → Bool
is_costly None = false
is_costly (Some stub) = nat_le LSInfinity stub.cost

-- the table of faults, in its order, or `None` if the areas have none
abbrev pub areas_fault_of : List AreaConfig → Option ConfigFault
areas_fault_of areas = first_of (
    (has_wrong_areas areas, fault.Areas)
    ∷ (list_any (λ a. has_overlap a.ranges) areas, fault.RangesOverlap)
    ∷ (list_any is_stub_backbone areas, fault.BackboneStub)
    ∷ (list_any (λ a. is_costly a.stub) areas, fault.Cost)
    ∷ (list_any (λ a. nat_lt 32 (length a.ranges)) areas, fault.RangeCount)
    ∷ [])

-- a configuration has the faults of its areas
abbrev pub config_fault_of : Config → Option ConfigFault
config_fault_of c = areas_fault_of c.areas
