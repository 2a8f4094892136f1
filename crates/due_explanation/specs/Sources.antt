-- The sources of a summary for a destination, and their verdicts in an area (RFC 2328, 12.4.3).
use Rattle.std.specs.Prelude.{ℕ, ◌≡◌, ◌≢◌, ◌<◌, ◌≤◌, ◌==◌, ◌++◌, eqb, Bool, true, false, List, [], ◌∷◌, Contains, Option, Some, None}
use Rattle.std.specs.FinMap.{get}
use Rattle.std.specs.Option.{option_eq}
use Rattle.ospf_types.specs.declared.config.AreaConfig.{AreaConfig}
use Rattle.ospf_types.specs.declared.config.Range.{Range}
use Rattle.ospf_types.specs.declared.entry.Entry.{Entry}
use Rattle.ospf_types.specs.declared.key.Dest.{Dest}
use Rattle.ospf_types.specs.declared.key.Dest.TheVariants.{Net, Router}
use Rattle.ospf_types.specs.declared.prefix.Prefix.{Prefix}
use Rattle.ospf_types.specs.Address.{Covers}
use Rattle.ospf_types.specs.Inter.{LSInfinity}
use Rattle.active_ranges.specs.Active.{HasCost, HasRange}
use Rattle.active_ranges.specs.Lists.{IsGreatestBelow}
use Rattle.external.specs.AsbrRoute.{PreferredValue}
use Rattle.summaries.specs.Giving.{Advertises, IsOutsideRanges}
use Rattle.summaries.specs.Inputs.{SummaryInputsValue}
use Rattle.due_explanation.specs.declared.due.DueVerdict.{DueVerdict}
use Rattle.due_explanation.specs.declared.due.DueVerdict.TheVariants as verdict
use Rattle.due_explanation.specs.declared.due.DueSource.{DueSource}
use Rattle.due_explanation.specs.declared.due.SourceKind.{SourceKind}
use Rattle.due_explanation.specs.declared.due.SourceKind.TheVariants as kind

-- ---- the verdict on a source by itself, for any area: it gives a summary if nothing prevents it

-- an inter-area route, or the route of an AS boundary router
abbrev pub IsRouteFate : ℕ → DueVerdict → Type 0
IsRouteFate cost verdict.Infinity = LSInfinity ≤ cost
IsRouteFate cost verdict.Given = cost < LSInfinity
IsRouteFate cost _ = ⊥

abbrev pub IsInterFate : ℕ → ℕ → DueVerdict → Type 0
IsInterFate through cost f = IsRouteFate cost f

-- a range of the area with this Area ID, which has the network
abbrev pub IsRangeAround : List AreaConfig → ℕ → Prefix → Prefix → Type 0
IsRangeAround areas id p around = (a : AreaConfig) × (r : Range) × Contains areas a × (a.id ≡ id) × Contains a.ranges r × (r.prefix ≡ around) × Covers around p

-- a range of this area, which has the Area ID
abbrev pub IsRangeOf : ℕ → Prefix → AreaConfig → Prefix → Type 0
IsRangeOf id p a around = (r : Range) × (a.id ≡ id) × Contains a.ranges r × (r.prefix ≡ around) × Covers around p

abbrev pub HasRangeAround : ℕ → Prefix → AreaConfig → Type 0
HasRangeAround id p a = (around : Prefix) × IsRangeOf id p a around

-- an intra-area route through this area
abbrev pub IsIntraFate : List AreaConfig → Prefix → ℕ → ℕ → DueVerdict → Type 0
IsIntraFate areas p through cost verdict.Infinity = LSInfinity ≤ cost
IsIntraFate areas p through cost (verdict.InRange r) = (cost < LSInfinity) × IsRangeAround areas through p r
IsIntraFate areas p through cost verdict.Given = (cost < LSInfinity) × IsOutsideRanges areas through p
IsIntraFate areas p through cost _ = ⊥

-- the area's range with this prefix, where this is the greatest cost of its networks
abbrev pub IsRangeFate : AreaConfig → Prefix → Option ℕ → DueVerdict → Type 0
IsRangeFate a p cost verdict.NotAdvertised = Advertises a p → ⊥
IsRangeFate a p cost verdict.NoNetwork = Advertises a p × (cost ≡ None)
IsRangeFate a p cost verdict.Given = Advertises a p × ((n : ℕ) × (cost ≡ Some n))
IsRangeFate a p cost _ = ⊥

-- ---- the sources

-- the entry, with the area that it leads through and its cost; `None` if no entry leads through an
-- area
abbrev pub IsEntrySource : SourceKind → (ℕ → ℕ → DueVerdict → Type 0) → Option Entry → Option DueSource → Type 0
IsEntrySource k IsFate entry None = (e : Entry) (through : ℕ) → entry ≡ Some e → e.area ≡ Some through → ⊥
IsEntrySource k IsFate entry (Some s) = (e : Entry) × (entry ≡ Some e) × (e.area ≡ Some s.area) × (s.kind ≡ k) × (s.cost ≡ Some e.cost) × IsFate s.area e.cost s.verdict

-- the preferred entry of an AS boundary router
abbrev pub IsPreferredSource : Option PreferredValue → Option DueSource → Type 0
IsPreferredSource preferred None = preferred ≡ None
IsPreferredSource preferred (Some s) = (w : PreferredValue) × (preferred ≡ Some w) × (w.preference.area ≡ s.area) × (s.kind ≡ kind.Preferred) × (s.cost ≡ Some w.preference.cost) × IsRouteFate w.preference.cost s.verdict

-- the area's range with this prefix, at the greatest finite cost of its networks; `None` if it has
-- no such range
abbrev pub IsRangeSource : SummaryInputsValue → AreaConfig → Prefix → Option DueSource → Type 0
IsRangeSource v a p None = HasRange a p → ⊥
IsRangeSource v a p (Some s) = HasRange a p × (s.area ≡ a.id) × (s.kind ≡ kind.Range) × IsGreatestBelow LSInfinity (HasCost v.ranges p a.id) s.cost × IsRangeFate a p s.cost s.verdict

abbrev pub listed : Option DueSource → List DueSource
listed None = []
listed (Some s) = s ∷ []

-- those of these areas, in their order
abbrev pub AreRangeSources : SummaryInputsValue → Prefix → List AreaConfig → List DueSource → Type 0
AreRangeSources v p [] sources = sources ≡ []
AreRangeSources v p (a ∷ areas) sources = (found : Option DueSource) × (rest : List DueSource) × IsRangeSource v a p found × AreRangeSources v p areas rest × (sources ≡ listed found ++ rest)

-- the sources of a network: its intra-area route, its inter-area route, and the ranges with its
-- prefix
pub record AreNetworkSources (v : SummaryInputsValue) (p : Prefix) (sources : List DueSource) : Type 0 where
  pub intra : Option DueSource
  pub inter : Option DueSource
  pub ranges : List DueSource
  pub intra_is : IsEntrySource kind.IntraArea (IsIntraFate v.areas p) (get v.intra.entries p) intra
  pub inter_is : IsEntrySource kind.InterArea IsInterFate (get v.inter.entries (Net p)) inter
  pub ranges_are : AreRangeSources v p v.areas ranges
  pub whole : sources ≡ (listed intra ++ listed inter) ++ ranges

abbrev pub AreRouterSources : Option PreferredValue → List DueSource → Type 0
AreRouterSources preferred sources = (found : Option DueSource) × IsPreferredSource preferred found × (sources ≡ listed found)

-- all that could give a summary for the destination
abbrev pub AreSources : SummaryInputsValue → Dest → List DueSource → Type 0
AreSources v (Net p) sources = AreNetworkSources v p sources
AreSources v (Router router) sources = AreRouterSources (get v.external.preferred router) sources

-- ---- in an area

-- it gives a summary at this metric in the area, and does not lead through it
abbrev pub GivesInto : ℕ → DueSource → ℕ → Type 0
GivesInto area s metric = (s.area ≢ area) × (s.verdict ≡ verdict.Given) × (s.cost ≡ Some metric)

abbrev pub GivesAmong : ℕ → List DueSource → ℕ → Type 0
GivesAmong area sources metric = (s : DueSource) × Contains sources s × GivesInto area s metric

-- its verdict: it depends on its area and on its cost
abbrev pub fate_in : Bool → Bool → DueVerdict → DueVerdict
fate_in true reached f = verdict.OwnArea
fate_in false false verdict.Given = verdict.Lesser
fate_in false reached f = f

abbrev pub settled : ℕ → Option ℕ → DueSource → DueSource
settled area metric s = record s { verdict = fate_in (s.area == area) (option_eq eqb s.cost metric) s.verdict }
