-- Due summaries as their callers see them: a list an area.
use Rattle.std.specs.Prelude.{ℕ, ◌≡◌, ◌↔◌, List, [], ◌∷◌, Contains, Option, Some, None, map, if◌then◌else◌, ◌==◌}
use Rattle.ospf_types.specs.declared.config.AreaConfig.{AreaConfig}
use Rattle.ospf_types.specs.declared.key.Dest.{Dest}
use Rattle.summary_lists.specs.declared.due.DueSummary.{DueSummary}
use Rattle.summaries.specs.Inputs.{SummaryInputsValue}
use Rattle.summaries.specs.Giving.{IsDueIn}
use Rattle.summary_lists.specs.Lists.{AreaSummariesValue, AreInOrder, kind_of, Metrics, AreChangesBetween}

pub record DueSummariesValue : Type 0 where
  pub areas : List AreaSummariesValue  -- in the order of the configuration
  pub active : List ℕ  -- the active areas that they are made for

-- only the lists, each with its Area ID
abbrev pub listed : List AreaSummariesValue → List (ℕ × List DueSummary)
listed areas = map (λ a. (a.area, a.list)) areas

abbrev pub lists_of : DueSummariesValue → List (ℕ × List DueSummary)
lists_of w = listed w.areas

-- the destinations that are due in the area
abbrev pub dests_of : AreaSummariesValue → List Dest
dests_of a = map (λ due. due.dest) a.list

-- what is due in the first area with that Area ID, or `None` if it is not configured
abbrev pub list_in : List AreaSummariesValue → ℕ → Option (List DueSummary)
list_in [] area = None
list_in (a ∷ areas) area = if a.area == area then Some a.list else list_in areas area

-- the list is what is due in the area
pub record IsListOf (v : SummaryInputsValue) (a : AreaConfig) (w : AreaSummariesValue) : Type 0 where
  pub area : w.area ≡ a.id
  pub in_order : AreInOrder w.list
  pub exact : (due : DueSummary) → Contains w.list due ↔ (IsDueIn v a due.dest due.metric × (due.kind ≡ kind_of due.dest))

abbrev pub AreListsOf : SummaryInputsValue → List AreaConfig → List AreaSummariesValue → Type 0
AreListsOf v [] [] = Unit {0}
AreListsOf v (a ∷ areas) (w ∷ lists) = IsListOf v a w × AreListsOf v areas lists
AreListsOf v [] (w ∷ lists) = ⊥
AreListsOf v (a ∷ areas) [] = ⊥

-- the lists belong to the inputs
pub record AreSummariesOf (v : SummaryInputsValue) (w : DueSummariesValue) : Type 0 where
  pub active : w.active ≡ v.active
  pub lists : AreListsOf v v.areas w.areas

-- the lists belong to all inputs with these areas, of which none is active
abbrev pub AreOfInactive : List AreaConfig → DueSummariesValue → Type 0
AreOfInactive areas w = (v : SummaryInputsValue) → v.areas ≡ areas → v.active ≡ [] → AreSummariesOf v w

-- what changed in each of the lists, from the first on; nothing changed in those that are left
abbrev pub AreDueChanges : List (ℕ × Metrics) → List (ℕ × List DueSummary) → List (ℕ × List DueSummary) → Type 0
AreDueChanges [] old new = new ≡ old
AreDueChanges (c ∷ changes) (e ∷ old) (f ∷ new) = ((c.0 ≡ e.0) × AreChangesBetween c.1 e.1 f.1) × AreDueChanges changes old new
AreDueChanges (c ∷ changes) [] new = ⊥
AreDueChanges (c ∷ changes) (e ∷ old) [] = ⊥

-- what changed in the area
abbrev pub changes_in : List (ℕ × Metrics) → ℕ → Metrics
changes_in [] area = []
changes_in (c ∷ changes) area = if c.0 == area then c.1 else changes_in changes area
