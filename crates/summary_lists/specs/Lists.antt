-- The list of what is due in an area, and how it changes: destination by destination.
use Rattle.std.specs.Prelude.{ℕ, ◌≡◌, ◌≢◌, ◌↔◌, List, Contains, All, Option, Some, map}
use Rattle.std.specs.List.Sorted.{IsStrictlySortedBy}
use Rattle.std.specs.Map.{keys_of}
use Rattle.ospf_types.specs.declared.key.Dest.{Dest}
use Rattle.ospf_types.specs.declared.key.Dest.TheVariants.{Net, Router}
use Rattle.ospf_types.specs.Keys.{dest_cmp}
use Rattle.summary_lists.specs.declared.due.DueSummary.{DueSummary}

-- the LS type of a summary-LSA for the destination
abbrev pub kind_of : Dest → ℕ
kind_of (Net p) = 3
kind_of (Router router) = 4

abbrev pub due_for : Dest → ℕ → DueSummary
due_for d metric = record { kind = kind_of d; dest = d; metric = metric }

pub record AreaSummariesValue : Type 0 where
  pub area : ℕ
  pub list : List DueSummary
  pub room : ℕ  -- this many more it takes without memory

-- ascending by destination, and so by LS type
abbrev pub AreInOrder : List DueSummary → Type 0
AreInOrder list = IsStrictlySortedBy dest_cmp (map (λ due. due.dest) list)

-- each has the LS type of its destination
abbrev pub AreOfKind : List DueSummary → Type 0
AreOfKind list = All (λ due. due.kind ≡ kind_of due.dest) list

-- the list has the destination just at this metric; `None` if it does not have it
abbrev pub IsMetricIn : List DueSummary → Dest → Option ℕ → Type 0
IsMetricIn list d metric = (m : ℕ) → (metric ≡ Some m) ↔ Contains list (due_for d m)

-- the new list has this destination at that metric, and the others as the old one has them
pub record IsPut (d : Dest) (metric : Option ℕ) (old new : List DueSummary) : Type 0 where
  pub here : IsMetricIn new d metric
  pub others : (due : DueSummary) → due.dest ≢ d → Contains new due ↔ Contains old due

-- destinations with their metrics; none for what is no longer due
abbrev pub Metrics : Type 0
Metrics = List (Dest × Option ℕ)

-- the new list has these destinations at their metrics, and the others as the old one has them
pub record IsChangedBy (metrics : Metrics) (old new : List DueSummary) : Type 0 where
  pub here : (d : Dest) (metric : Option ℕ) → Contains metrics (d, metric) → IsMetricIn new d metric
  pub others : (due : DueSummary) → (Contains (keys_of metrics) due.dest → ⊥) → Contains new due ↔ Contains old due

-- ascending, each destination once
abbrev pub AreMetricsInOrder : Metrics → Type 0
AreMetricsInOrder metrics = IsStrictlySortedBy dest_cmp (keys_of metrics)

-- just the destinations that the new list has otherwise than the old one, ascending, each with its
-- metric in the new one
pub record AreChangesBetween (metrics : Metrics) (old new : List DueSummary) : Type 0 where
  pub in_order : AreMetricsInOrder metrics
  pub exact : (d : Dest) (metric : Option ℕ) → Contains metrics (d, metric) ↔ (IsMetricIn new d metric × (IsMetricIn old d metric → ⊥))
