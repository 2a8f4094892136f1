-- What differs in the inputs of due summaries, and what is named of it.
use Rattle.std.specs.Prelude.{ℕ, ◌≡◌, ◌⊎◌, ◌↔◌, List, [], ◌∷◌, ◌++◌, Contains, Option, Some}
use Rattle.std.specs.Map.{keys_of}
use Rattle.ospf_types.specs.declared.config.AreaConfig.{AreaConfig}
use Rattle.std.specs.FinMap.{get}
use Rattle.ospf_types.specs.declared.key.Dest.{Dest}
use Rattle.ospf_types.specs.declared.key.Dest.TheVariants.{Net, Router}
use Rattle.ospf_types.specs.declared.prefix.Prefix.{Prefix}
use Rattle.ospf_types.specs.Address.{Covers}
use Rattle.ospf_types.specs.RangeChanges.{areas_without_ranges}
use Rattle.active_ranges.specs.Active.{IsRangeNamed, RangesDifferAt}
use Rattle.active_ranges.specs.declared.member.RangeMember.{RangeMember}
use Rattle.summary_lists.specs.declared.due.DueSummary.{DueSummary}
use Rattle.summaries.specs.DueSummaries.{AreSummariesOf, DueSummariesValue}
use Rattle.summaries.specs.Inputs.{SummaryInputsValue}
use Rattle.summaries.specs.Giving.{IsDueIn}
use Rattle.summary_lists.specs.Lists.{Metrics, AreMetricsInOrder, IsMetricIn, due_for}

-- the routes differ in no more than is named, and ranges in one that is named whole, if in any; of
-- other active areas nothing need be named
pub record InputsDifferAmong (dests : List Dest) (old new : SummaryInputsValue) : Type 0 where
  pub areas : areas_without_ranges new.areas ≡ areas_without_ranges old.areas
  pub range : Option (ℕ × Prefix)
  pub ranges : RangesDifferAt range old.areas new.areas
  pub whole : IsRangeNamed range dests old.intra.entries
  pub intra : (p : Prefix) → (Contains dests (Net p) → ⊥) → get new.intra.entries p ≡ get old.intra.entries p
  pub members : (m : RangeMember) → (Contains dests (Net m.network) → Covers m.range m.network → ⊥) → get new.ranges.members m ≡ get old.ranges.members m
  pub inter : (p : Prefix) → (Contains dests (Net p) → ⊥) → get new.inter.entries (Net p) ≡ get old.inter.entries (Net p)
  pub preferred : (r : ℕ) → (Contains dests (Router r) → ⊥) → get new.external.preferred r ≡ get old.external.preferred r

-- no other destination is due in an area otherwise than before
abbrev pub AreDueAlikeBut : List Dest → SummaryInputsValue → SummaryInputsValue → Type 0
AreDueAlikeBut dests old new = (a : AreaConfig) (d : Dest) → Contains new.areas a → (Contains dests d → ⊥) → (m : ℕ) → IsDueIn old a d m ↔ IsDueIn new a d m

-- the lists belong to earlier inputs, which differ from these in no more than is named
abbrev pub AreSummariesBehind : List Dest → SummaryInputsValue → DueSummariesValue → Type 0
AreSummariesBehind dests v w = (before : SummaryInputsValue) × AreSummariesOf before w × InputsDifferAmong dests before v

-- where no more differs than is named, no destinations but these are due otherwise than before
abbrev pub AreEnough : List Dest → SummaryInputsValue → DueSummariesValue → List Dest → Type 0
AreEnough dests v w found = (before : SummaryInputsValue) → AreSummariesOf before w → InputsDifferAmong dests before v → AreDueAlikeBut found before v

-- where only ranges of the configuration differ, and any routes, no destinations but these are due
-- otherwise than before
abbrev pub AreEnoughForAll : SummaryInputsValue → DueSummariesValue → List Dest → Type 0
AreEnoughForAll v w found = (before : SummaryInputsValue) → AreSummariesOf before w → areas_without_ranges v.areas ≡ areas_without_ranges before.areas → AreDueAlikeBut found before v

-- all destinations that are due in some area are among these
abbrev pub HasAllDue : SummaryInputsValue → List Dest → Type 0
HasAllDue v dests = (a : AreaConfig) (d : Dest) (m : ℕ) → IsDueIn v a d m → Contains dests d

-- just those of the destinations that are due at another metric than the list has, in their order,
-- each at that metric
pub record AreChangesIn (v : SummaryInputsValue) (a : AreaConfig) (list : List DueSummary) (dests : List Dest) (metrics : Metrics) : Type 0 where
  pub in_order : AreMetricsInOrder metrics
  pub named : (d : Dest) → Contains (keys_of metrics) d → Contains dests d × (((m : ℕ) → IsDueIn v a d m ↔ Contains list (due_for d m)) → ⊥)
  pub here : (d : Dest) (metric : Option ℕ) → Contains metrics (d, metric) → (m : ℕ) → (metric ≡ Some m) ↔ IsDueIn v a d m
  pub others : (d : Dest) → Contains dests d → (Contains (keys_of metrics) d → ⊥) → (m : ℕ) → IsDueIn v a d m ↔ Contains list (due_for d m)

-- the destination is added at this metric, unless the list has it so
abbrev pub IsChangeAdded : List DueSummary → Dest → Option ℕ → Metrics → Metrics → Type 0
IsChangeAdded list d metric before after = ((after ≡ before) × IsMetricIn list d metric) ⊎ ((after ≡ before ++ (d, metric) ∷ []) × (IsMetricIn list d metric → ⊥))

-- the destination is added at this metric, unless the list that had it at the other metric has it
-- so
abbrev pub AddsChange : Dest → Option ℕ → Option ℕ → Metrics → Metrics → Type 0
AddsChange d metric had before after = (list : List DueSummary) → IsMetricIn list d had → IsChangeAdded list d metric before after
