-- The reason why a summary is due in an area, or is not (RFC 2328, 12.4.3).
use Rattle.std.specs.Prelude.{ℕ, ◌≡◌, ◌≢◌, ◌↔◌, ◌==◌, if◌then◌else◌, false, IsTrue, List, [], ◌∷◌, Contains, Option, Some, None, map}
use Rattle.ospf_types.specs.declared.config.AreaConfig.{AreaConfig}
use Rattle.ospf_types.specs.declared.config.Stub.{Stub}
use Rattle.ospf_types.specs.declared.key.Dest.{Dest}
use Rattle.ospf_types.specs.declared.key.Dest.TheVariants.{Net, Router}
use Rattle.ospf_types.specs.declared.prefix.Prefix.{Prefix}
use Rattle.ospf_types.specs.Summaries.{default_route}
use Rattle.summaries.specs.Giving.{IsDueIn, IsServed}
use Rattle.summaries.specs.Inputs.{SummaryInputsValue}
use Rattle.due_explanation.specs.Sources.{AreSources, settled}
use Rattle.due_explanation.specs.declared.due.DueExplained.{DueExplained}
use Rattle.due_explanation.specs.declared.due.DueReason.{DueReason}
use Rattle.due_explanation.specs.declared.due.DueReason.TheVariants as reason
use Rattle.due_explanation.specs.declared.due.DueSource.{DueSource}

-- the first of these areas with the Area ID
abbrev pub area_with : List AreaConfig → ℕ → Option AreaConfig
area_with [] id = None
area_with (a ∷ areas) id = if a.id == id then Some a else area_with areas id

-- two areas at least are active
abbrev pub AreSeveral : List ℕ → Type 0
AreSeveral active = (one another : ℕ) × Contains active one × Contains active another × (one ≢ another)

-- the sources of a summary decide: the area is not a stub area, or it gets networks, of which this
-- is one
abbrev pub MaySend : Option Stub → Dest → Type 0
MaySend None d = Unit {0}
MaySend (Some stub) (Net p) = (p ≢ default_route) × IsTrue stub.summaries
MaySend (Some stub) (Router router) = ⊥

-- the reason in a stub area
abbrev pub IsStubReason : Option Stub → Dest → Option ℕ → DueReason → Type 0
IsStubReason None d metric r = ⊥
IsStubReason (Some stub) d metric reason.StubRouter = (router : ℕ) × (d ≡ Router router) × (metric ≡ None)
IsStubReason (Some stub) d metric reason.StubDefault = (d ≡ Net default_route) × (metric ≡ Some stub.cost)
IsStubReason (Some stub) d metric reason.StubHides = (p : Prefix) × (d ≡ Net p) × (p ≢ default_route) × (stub.summaries ≡ false) × (metric ≡ None)
IsStubReason (Some stub) d metric r = ⊥

-- all sources, and the verdict on each in the area where the summary is due at this metric
abbrev pub AreSourcesSettled : SummaryInputsValue → AreaConfig → Dest → Option ℕ → List DueSource → Type 0
AreSourcesSettled v a d metric sources = (alone : List DueSource) × AreSources v d alone × (sources ≡ map (settled a.id metric) alone)

abbrev pub IsReason : SummaryInputsValue → AreaConfig → Dest → Option ℕ → DueReason → Type 0
IsReason v a d metric reason.NotConfigured = ⊥
IsReason v a d metric reason.NotBorder = AreSeveral v.active → ⊥
IsReason v a d metric reason.NotActive = AreSeveral v.active × (Contains v.active a.id → ⊥)
IsReason v a d metric reason.StubRouter = IsServed v.active a.id × IsStubReason a.stub d metric reason.StubRouter
IsReason v a d metric reason.StubDefault = IsServed v.active a.id × IsStubReason a.stub d metric reason.StubDefault
IsReason v a d metric reason.StubHides = IsServed v.active a.id × IsStubReason a.stub d metric reason.StubHides
IsReason v a d metric (reason.Sources sources) = IsServed v.active a.id × MaySend a.stub d × AreSourcesSettled v a d metric sources.items

-- the metric at which the summary is due in the area, and why
pub record IsExplainedIn (v : SummaryInputsValue) (a : AreaConfig) (d : Dest) (x : DueExplained) : Type 0 where
  pub metric : (m : ℕ) → (x.metric ≡ Some m) ↔ IsDueIn v a d m
  pub why : IsReason v a d x.metric x.reason

abbrev pub IsExplainedAt : SummaryInputsValue → Option AreaConfig → Dest → DueExplained → Type 0
IsExplainedAt v None d x = (x.metric ≡ None) × (x.reason ≡ reason.NotConfigured)
IsExplainedAt v (Some a) d x = IsExplainedIn v a d x

-- in the area with the Area ID, if one has it
abbrev pub IsExplained : SummaryInputsValue → ℕ → Dest → DueExplained → Type 0
IsExplained v id d x = IsExplainedAt v (area_with v.areas id) d x
