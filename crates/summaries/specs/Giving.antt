-- The sources of a summary for a destination (RFC 2328, 12.4.3), by the routes that are kept.
use Rattle.std.specs.Prelude.{ℕ, ◌≡◌, ◌≢◌, ◌<◌, ◌≤◌, ◌⊎◌, IsTrue, List, Contains, All, Option, Some, None}
use Rattle.std.specs.FinMap.{get}
use Rattle.ospf_types.specs.declared.config.AreaConfig.{AreaConfig}
use Rattle.ospf_types.specs.declared.config.Range.{Range}
use Rattle.ospf_types.specs.declared.config.Stub.{Stub}
use Rattle.ospf_types.specs.declared.entry.Entry.{Entry}
use Rattle.ospf_types.specs.declared.key.Dest.{Dest}
use Rattle.ospf_types.specs.declared.key.Dest.TheVariants.{Net, Router}
use Rattle.ospf_types.specs.declared.prefix.Prefix.{Prefix}
use Rattle.ospf_types.specs.Address.{Covers}
use Rattle.ospf_types.specs.Inter.{LSInfinity}
use Rattle.ospf_types.specs.Summaries.{IsGreatest, default_route}
use Rattle.active_ranges.specs.Active.{HasCost}
use Rattle.external.specs.AsbrRoute.{PreferredValue}
use Rattle.summaries.specs.Inputs.{SummaryInputsValue}

-- the greatest of the numbers that have the property, or `None` if none has it
pub record IsMost (P : ℕ → Type 0) (most : Option ℕ) : Type 0 where
  pub found : (n : ℕ) → most ≡ Some n → P n
  pub reached : (n : ℕ) → P n → (m : ℕ) × (most ≡ Some m) × (n ≤ m)

-- the entry leads through this other area, at a finite cost
pub record Enters (area through : ℕ) (e : Entry) : Type 0 where
  pub through_area : e.area ≡ Some through
  pub foreign : through ≢ area
  pub finite : e.cost < LSInfinity

-- no range of that area has the network
abbrev pub IsOutsideRanges : List AreaConfig → ℕ → Prefix → Type 0
IsOutsideRanges areas id p = (a : AreaConfig) → Contains areas a → a.id ≡ id → All (λ r. ¬ Covers r.prefix p) a.ranges

-- an intra-area network outside the ranges of its area
abbrev pub IntraGives : SummaryInputsValue → ℕ → Prefix → ℕ → Type 0
IntraGives v area p metric = (e : Entry) × (through : ℕ) × (get v.intra.entries p ≡ Some e) × Enters area through e × IsOutsideRanges v.areas through p × (e.cost ≡ metric)

-- an inter-area network
abbrev pub InterGives : SummaryInputsValue → ℕ → Prefix → ℕ → Type 0
InterGives v area p metric = (e : Entry) × (through : ℕ) × (get v.inter.entries (Net p) ≡ Some e) × Enters area through e × (e.cost ≡ metric)

-- an advertised range of that area has the prefix
abbrev pub IsRangeAdvertised : List AreaConfig → ℕ → Prefix → Type 0
IsRangeAdvertised areas id p = (a : AreaConfig) × (r : Range) × Contains areas a × (a.id ≡ id) × Contains a.ranges r × (r.prefix ≡ p) × IsTrue r.advertise

-- a network of the range of that other area, at a finite cost
abbrev pub IsComponentIn : SummaryInputsValue → ℕ → Prefix → ℕ → Type 0
IsComponentIn v through p cost = HasCost v.ranges p through cost × (cost < LSInfinity)

-- an advertised range of another area, by its costliest component
abbrev pub RangeGives : SummaryInputsValue → ℕ → Prefix → ℕ → Type 0
RangeGives v area p metric = (through : ℕ) × IsRangeAdvertised v.areas through p × (through ≢ area) × IsGreatest (IsComponentIn v through p) metric

-- an advertised range of this area has the prefix
abbrev pub Advertises : AreaConfig → Prefix → Type 0
Advertises a p = (r : Range) × Contains a.ranges r × (r.prefix ≡ p) × IsTrue r.advertise

abbrev pub RangeGivesBy : SummaryInputsValue → AreaConfig → ℕ → Prefix → ℕ → Type 0
RangeGivesBy v a area p metric = (a.id ≢ area) × Advertises a p × IsGreatest (IsComponentIn v a.id p) metric

abbrev pub GivesIn : SummaryInputsValue → ℕ → Prefix → ℕ → Type 0
GivesIn v area p metric = IntraGives v area p metric ⊎ InterGives v area p metric ⊎ RangeGives v area p metric

-- A stub area is sent its default route, and other networks only where its configuration says so.
abbrev pub IsNetworkDueIn : SummaryInputsValue → ℕ → Option Stub → Prefix → ℕ → Type 0
IsNetworkDueIn v area None p metric = IsGreatest (GivesIn v area p) metric
IsNetworkDueIn v area (Some stub) p metric =
    ((p ≡ default_route) × (metric ≡ stub.cost))
    ⊎ ((p ≢ default_route) × IsTrue stub.summaries × IsGreatest (GivesIn v area p) metric)

-- the preferred entry leads through another area, at a finite cost
abbrev pub PreferredGives : Option PreferredValue → ℕ → ℕ → Type 0
PreferredGives o area metric = (w : PreferredValue) × (o ≡ Some w) × (w.preference.area ≢ area) × (w.preference.cost < LSInfinity) × (w.preference.cost ≡ metric)

-- an AS boundary router by its preferred entry; never in a stub area
abbrev pub IsRouterDueIn : SummaryInputsValue → ℕ → Option Stub → ℕ → ℕ → Type 0
IsRouterDueIn v area None router metric = PreferredGives (get v.external.preferred router) area metric
IsRouterDueIn v area (Some stub) router metric = ⊥

abbrev pub IsDueTo : SummaryInputsValue → AreaConfig → Dest → ℕ → Type 0
IsDueTo v a (Net p) metric = IsNetworkDueIn v a.id a.stub p metric
IsDueTo v a (Router router) metric = IsRouterDueIn v a.id a.stub router metric

-- two areas are active, and this is one of them
pub record IsServed (active : List ℕ) (area : ℕ) : Type 0 where
  pub here : Contains active area
  pub other : (another : ℕ) × Contains active another × (another ≢ area)

-- the summary is due in the area
pub record IsDueIn (v : SummaryInputsValue) (a : AreaConfig) (d : Dest) (metric : ℕ) : Type 0 where
  pub served : IsServed v.active a.id
  pub due : IsDueTo v a d metric
