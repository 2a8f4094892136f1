-- The changes to make in the list of an area.
use Rattle.std.specs.Prelude.{◌≡◌, ◌≤◌, Option, Some, None, length}
use Rattle.std.specs.Global.{Vec}
use Rattle.summary_lists.specs.declared.due.DueSummary.{DueSummary}
use Rattle.summary_lists.specs.declared.plan.AreaPlan.{AreaPlan}
use Rattle.summary_lists.specs.Lists.{AreaSummariesValue, AreInOrder, AreOfKind, AreMetricsInOrder, IsChangedBy, Metrics}

-- the area has room for these changes; or this is its list with them
abbrev pub HasRoom : Metrics → AreaSummariesValue → Option (Vec DueSummary) → Type 0
HasRoom metrics w None = length metrics ≤ w.room
HasRoom metrics w (Some list) = IsChangedBy metrics w.list list.items × AreInOrder list.items × AreOfKind list.items

-- the plan may be carried out in the area
abbrev pub Fits : AreaPlan → AreaSummariesValue → Type 0
Fits plan w = AreMetricsInOrder plan.metrics.items × HasRoom plan.metrics.items w plan.whole

-- the one area became the other by these changes
pub record IsListChanged (metrics : Metrics) (old new : AreaSummariesValue) : Type 0 where
  pub area : new.area ≡ old.area
  pub list : IsChangedBy metrics old.list new.list
  pub in_order : AreInOrder new.list
  pub of_kind : AreOfKind new.list
