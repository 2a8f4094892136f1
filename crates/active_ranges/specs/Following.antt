-- How active ranges follow the routes: the members that named networks may be, and the prefixes
-- that they touch.
use Rattle.std.specs.Prelude.{ℕ, ◌≡◌, ◌≢◌, ◌⊎◌, ◌↔◌, ◌++◌, List, [], ◌∷◌, Contains, Option, Some, None, IsTrue, map}
use Rattle.std.specs.FinMap.{get}
use Rattle.ospf_types.specs.declared.config.AreaConfig.{AreaConfig}
use Rattle.ospf_types.specs.declared.config.Range.{Range}
use Rattle.ospf_types.specs.declared.entry.Entry.{Entry}
use Rattle.ospf_types.specs.declared.key.Dest.{Dest}
use Rattle.ospf_types.specs.declared.key.Dest.TheVariants.{Net}
use Rattle.ospf_types.specs.declared.prefix.Prefix.{Prefix}
use Rattle.ospf_types.specs.Address.{Covers}
use Rattle.intra.specs.Intras.{EntriesByPrefix}
use Rattle.active_ranges.specs.Active.{ActiveValue, IsActiveIn, IsConfigured, IsMemberWithin}
pub use Rattle.active_ranges.specs.Lists.{HasMore}
use Rattle.active_ranges.specs.declared.active.Noted.{Noted}
use Rattle.active_ranges.specs.declared.member.AreaRange.{AreaRange}
use Rattle.active_ranges.specs.declared.member.RangeMember.{RangeMember}

-- ---- the members that networks may be

-- the network may be this one, by the configuration
abbrev pub IsNamed : List AreaConfig → List Dest → RangeMember → Type 0
IsNamed areas dests m = Contains dests (Net m.network) × IsConfigured areas m.area m.range × Covers m.range m.network

-- by one area's ranges
abbrev pub IsNamedIn : AreaConfig → List Dest → RangeMember → Type 0
IsNamedIn a dests m = Contains dests (Net m.network) × (a.id ≡ m.area) × ((r : Range) × Contains a.ranges r × (r.prefix ≡ m.range)) × Covers m.range m.network

-- by one range
abbrev pub IsNamedOf : AreaRange → List Dest → RangeMember → Type 0
IsNamedOf range dests m = Contains dests (Net m.network) × (range.prefix ≡ m.range) × (range.area ≡ m.area) × Covers range.prefix m.network

-- of one destination
abbrev pub IsNamedAs : AreaRange → Dest → RangeMember → Type 0
IsNamedAs range dest m = (dest ≡ Net m.network) × (range.prefix ≡ m.range) × (range.area ≡ m.area) × Covers range.prefix m.network

-- ---- their costs

-- the entry is one through the area at this cost
abbrev pub IsCostIn : Option Entry → ℕ → ℕ → Type 0
IsCostIn entry area cost = (e : Entry) × (entry ≡ Some e) × (e.area ≡ Some area) × (e.cost ≡ cost)

-- the one member, at the cost of its network's entry, where its range covers the network
abbrev pub IsAddedWithin : EntriesByPrefix → RangeMember → RangeMember × ℕ → Type 0
IsAddedWithin entries member x = (x.0 ≡ member) × Covers member.range member.network × IsCostIn (get entries member.network) member.area x.1

-- where this is the entry of the member's network, the member comes to the list if its range covers
-- the network
abbrev pub AddsWithin : RangeMember → Entry → List (RangeMember × ℕ) → List (RangeMember × ℕ) → Type 0
AddsWithin member entry before after = (entries : EntriesByPrefix) → get entries member.network ≡ Some entry → HasMore (IsAddedWithin entries member) before after

-- it is a member that a network within the range is of it, and the cost of the network's entry
abbrev pub IsCostWithin : EntriesByPrefix → ℕ → Prefix → RangeMember × ℕ → Type 0
IsCostWithin entries area range x = IsMemberWithin entries area range x.0 × IsCostIn (get entries x.0.network) x.0.area x.1

-- the member has the cost of its network's entry, where that is one through the member's area
abbrev pub HasCostBy : EntriesByPrefix → ActiveValue → RangeMember → Type 0
HasCostBy entries v m = (cost : ℕ) → (get v.members m ≡ Some cost) ↔ IsCostIn (get entries m.network) m.area cost

-- but for the one member all have what they had
abbrev pub AreAlikeBut : RangeMember → ActiveValue → ActiveValue → Type 0
AreAlikeBut member old new = (m : RangeMember) → m ≢ member → get new.members m ≡ get old.members m

-- the prefixes of the members' ranges
abbrev pub ranges_in : List RangeMember → List Prefix
ranges_in members = map (λ m. m.range) members

-- these members have the costs of the entries, and the others what they had
pub record AreMembersFollowed (entries : EntriesByPrefix) (named : List RangeMember) (old new : ActiveValue) : Type 0 where
  pub spent : new.spent ≡ old.spent
  pub here : (m : RangeMember) → Contains named m → (cost : ℕ) → (get new.members m ≡ Some cost) ↔ IsCostIn (get entries m.network) m.area cost
  pub others : (m : RangeMember) → (Contains named m → ⊥) → get new.members m ≡ get old.members m

-- it is one of the members that the area's range has
abbrev pub IsMemberIn : ActiveValue → ℕ → Prefix → RangeMember → Type 0
IsMemberIn v area range m = (m.range ≡ range) × (m.area ≡ area) × ((cost : ℕ) × (get v.members m ≡ Some cost))

-- the members are all of the area's range
abbrev pub AreOfRange : ℕ → Prefix → List (RangeMember × ℕ) → Type 0
AreOfRange area range costs = (m : RangeMember) (cost : ℕ) → Contains costs (m, cost) → (m.range ≡ range) × (m.area ≡ area)

-- the area's range has these members at costs that come with them, and no others; those of other
-- ranges have what they had
pub record AreTakenIn (area : ℕ) (range : Prefix) (costs : List (RangeMember × ℕ)) (old new : ActiveValue) : Type 0 where
  pub spent : new.spent ≡ old.spent
  pub here : (m : RangeMember) (c : ℕ) → Contains costs (m, c) → (cost : ℕ) × (get new.members m ≡ Some cost) × Contains costs (m, cost)
  pub none : (m : RangeMember) → m.range ≡ range → m.area ≡ area → ((c : ℕ) → Contains costs (m, c) → ⊥) → get new.members m ≡ None
  pub others : (m : RangeMember) → ((m.range ≡ range) × (m.area ≡ area) → ⊥) → get new.members m ≡ get old.members m

-- the area's range has no members, and the others are unchanged
pub record HasLeft (area : ℕ) (range : Prefix) (old new : ActiveValue) : Type 0 where
  pub spent : new.spent ≡ old.spent
  pub here : (m : RangeMember) → m.range ≡ range → m.area ≡ area → get new.members m ≡ None
  pub others : (m : RangeMember) → ((m.range ≡ range) × (m.area ≡ area) → ⊥) → get new.members m ≡ get old.members m

-- ---- which ranges are active

-- what was noted of the range is so
abbrev pub IsNotedOf : ActiveValue → Noted → Type 0
IsNotedOf v n = IsTrue n.active ↔ IsActiveIn v n.prefix

-- what was noted of each range is so
abbrev pub AreNotedOf : ActiveValue → List Noted → Type 0
AreNotedOf v ns = (n : Noted) → Contains ns n → IsNotedOf v n

-- the prefixes of the ranges of which something was noted
abbrev pub prefixes_of : List Noted → List Prefix
prefixes_of ns = map (λ n. n.prefix) ns

-- what was noted of the range is no longer so
abbrev pub HasTurned : ActiveValue → Noted → Type 0
HasTurned v n = (IsTrue n.active × (IsActiveIn v n.prefix → ⊥)) ⊎ ((IsTrue n.active → ⊥) × IsActiveIn v n.prefix)

-- what was noted of a range with the prefix is no longer so
abbrev pub IsTurnedAmong : ActiveValue → List Noted → Prefix → Type 0
IsTurnedAmong v ns p = (n : Noted) × Contains ns n × (n.prefix ≡ p) × HasTurned v n

-- the prefix is added where what was noted of it is no longer so
abbrev pub IsChangeReported : ActiveValue → Noted → List Prefix → List Prefix → Type 0
IsChangeReported v n before after = ((after ≡ before) × (HasTurned v n → ⊥)) ⊎ ((after ≡ before ++ n.prefix ∷ []) × HasTurned v n)
