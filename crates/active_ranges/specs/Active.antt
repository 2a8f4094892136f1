-- The ranges of the areas with the networks that they summarize, each at its cost (RFC 2328, 3.5
-- and 16.2).
use Rattle.std.specs.Prelude.{ℕ, ◌≡◌, ◌⊎◌, ◌↔◌, Bool, true, false, List, Contains, Option, Some, refl}
use Rattle.std.specs.Coded.{Coded, code_by, coded×, coded_ℕ}
use Rattle.std.specs.FinMap.{FinMap, get, empty}
use Rattle.std.specs.Ordering.{nat_cmp, ordering_then}
use Rattle.std.specs.declared.cmp.Ordering.{Ordering}
use Rattle.ospf_types.specs.declared.config.AreaConfig.{AreaConfig}
use Rattle.ospf_types.specs.declared.config.Range.{Range}
use Rattle.ospf_types.specs.declared.entry.Entry.{Entry}
use Rattle.ospf_types.specs.declared.key.Dest.{Dest}
use Rattle.ospf_types.specs.declared.key.Dest.TheVariants.{Net}
use Rattle.ospf_types.specs.declared.prefix.Prefix.{Prefix}
use Rattle.ospf_types.specs.Address.{Covers}
use Rattle.ospf_types.specs.Network.{network_cmp, network_code}
use Rattle.intra.specs.Intras.{EntriesByPrefix}
use Rattle.active_ranges.specs.declared.member.RangeMember.{RangeMember}

-- by range, then area, then network
abbrev pub member_cmp : RangeMember → RangeMember → Ordering
member_cmp x y = ordering_then (network_cmp x.range y.range) (ordering_then (nat_cmp x.area y.area) (network_cmp x.network y.network))

-- as a range, an area and a network
abbrev pub member_code : Coded RangeMember
member_code =
    code_by (Prefix × (ℕ × Prefix)) (coded× network_code (coded× coded_ℕ network_code)) (λ m. (m.range, (m.area, m.network))) (λ p. record { range = p.0; area = p.1.0; network = p.1.1 }) (λ _. refl)

abbrev pub CostsByMember : Type 0
CostsByMember = FinMap member_cmp ℕ

pub record ActiveValue : Type 0 where
  pub members : CostsByMember
  pub spent : Bool

abbrev pub spent_ranges : ActiveValue
spent_ranges = record { members = empty; spent = true }

-- the range is configured in the area
abbrev pub IsConfigured : List AreaConfig → ℕ → Prefix → Type 0
IsConfigured areas area range = (a : AreaConfig) × (r : Range) × Contains areas a × (a.id ≡ area) × Contains a.ranges r × (r.prefix ≡ range)

-- a range of the area has the prefix
abbrev pub HasRange : AreaConfig → Prefix → Type 0
HasRange area range = (r : Range) × Contains area.ranges r × (r.prefix ≡ range)

-- the range of an area has this network: its entry is intra-area, through that area, at this cost
abbrev pub IsMember : List AreaConfig → EntriesByPrefix → RangeMember → ℕ → Type 0
IsMember areas entries m cost = (e : Entry) × (get entries m.network ≡ Some e) × (e.area ≡ Some m.area) × (e.cost ≡ cost) × IsConfigured areas m.area m.range × Covers m.range m.network

-- the members are those by these entries
pub record AreRangesOf (areas : List AreaConfig) (entries : EntriesByPrefix) (v : ActiveValue) : Type 0 where
  pub fresh : v.spent ≡ false
  pub members : (m : RangeMember) (cost : ℕ) → (get v.members m ≡ Some cost) ↔ IsMember areas entries m cost

-- the prefix belongs to a range, of some area, that has a member
abbrev pub IsActiveIn : ActiveValue → Prefix → Type 0
IsActiveIn v p = (m : RangeMember) × (cost : ℕ) × (get v.members m ≡ Some cost) × (m.range ≡ p)

-- the area's range with this prefix has a network at this cost
abbrev pub HasCost : ActiveValue → Prefix → ℕ → ℕ → Type 0
HasCost v range area cost = (network : Prefix) × (get v.members (record { range = range; area = area; network = network }) ≡ Some cost)

-- the prefix belongs to an active range either before or after
abbrev pub DiffersAt : ActiveValue → ActiveValue → Prefix → Type 0
DiffersAt old new p = (IsActiveIn old p × (IsActiveIn new p → ⊥)) ⊎ ((IsActiveIn old p → ⊥) × IsActiveIn new p)

-- no entry differs, but for those of the networks that are named
abbrev pub EntriesDifferAmong : List Dest → EntriesByPrefix → EntriesByPrefix → Type 0
EntriesDifferAmong dests before after = (p : Prefix) → (Contains dests (Net p) → ⊥) → get after p ≡ get before p

-- the ranges are those by earlier entries, which differ from these only at the networks that are
-- named
abbrev pub AreRangesBehind : List AreaConfig → List Dest → EntriesByPrefix → ActiveValue → Type 0
AreRangesBehind areas dests entries v = (before : EntriesByPrefix) × AreRangesOf areas before v × EntriesDifferAmong dests before entries

-- ---- a range that is set or dropped

-- the area has the range
abbrev pub IsRangeIn : List AreaConfig → ℕ → Range → Type 0
IsRangeIn areas area r = (a : AreaConfig) × Contains areas a × (a.id ≡ area) × Contains a.ranges r

-- the areas have the same ranges, but for the one that is named by its area and its prefix
abbrev pub RangesDifferAt : Option (ℕ × Prefix) → List AreaConfig → List AreaConfig → Type 0
RangesDifferAt named before after = (area : ℕ) (r : Range) → (named ≡ Some (area, r.prefix) → ⊥) → IsRangeIn after area r ↔ IsRangeIn before area r

-- the network has an intra-area entry through the area, and the range covers it
abbrev pub IsRangeNetwork : EntriesByPrefix → ℕ → Prefix → Prefix → Type 0
IsRangeNetwork entries area range network = (e : Entry) × (get entries network ≡ Some e) × (e.area ≡ Some area) × Covers range network

-- the ranges belong to an earlier configuration, which differs from this one only in the range that
-- is named
abbrev pub AreRangesButAt : ℕ × Prefix → List AreaConfig → EntriesByPrefix → ActiveValue → Type 0
AreRangesButAt named areas entries v = (before : List AreaConfig) × AreRangesOf before entries v × RangesDifferAt (Some named) before areas

-- among the destinations are the prefix of the range that may differ, and the networks of its area
-- that it covers
abbrev pub IsRangeNamed : Option (ℕ × Prefix) → List Dest → EntriesByPrefix → Type 0
IsRangeNamed named dests entries = (area : ℕ) (range : Prefix) → named ≡ Some (area, range) → Contains dests (Net range) × ((network : Prefix) → IsRangeNetwork entries area range network → Contains dests (Net network))

-- it is the member that a network within the range is of it
abbrev pub IsMemberWithin : EntriesByPrefix → ℕ → Prefix → RangeMember → Type 0
IsMemberWithin entries area range m = (m.area ≡ area) × (m.range ≡ range) × IsRangeNetwork entries area range m.network
