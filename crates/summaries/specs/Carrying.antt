-- The changes to make in due summaries, area by area, and their result.
use Rattle.std.specs.Prelude.{ℕ, ◌≡◌, List, [], ◌∷◌, map}
use Rattle.summary_lists.specs.declared.plan.AreaPlan.{AreaPlan}
use Rattle.summary_lists.specs.Lists.{AreaSummariesValue, Metrics}
use Rattle.summaries.specs.DueSummaries.{AreDueChanges, AreSummariesOf, DueSummariesValue, lists_of}
use Rattle.summaries.specs.Inputs.{SummaryInputsValue}
use Rattle.summary_lists.specs.Plans.{Fits, IsListChanged}

-- each has its list, from the first on
abbrev pub AllFit : List AreaPlan → List AreaSummariesValue → Type 0
AllFit [] areas = Unit {0}
AllFit (p ∷ plans) (w ∷ areas) = Fits p w × AllFit plans areas
AllFit (p ∷ plans) [] = ⊥

-- what the plans change, each in its area
abbrev pub changes_of : List AreaPlan → List (ℕ × Metrics)
changes_of plans = map (λ p. (p.area, p.metrics.items)) plans

-- the areas became the others by these changes; those that are left are unchanged
abbrev pub AllChanged : List (ℕ × Metrics) → List AreaSummariesValue → List AreaSummariesValue → Type 0
AllChanged [] old new = new ≡ old
AllChanged (c ∷ changes) (w ∷ old) (x ∷ new) = IsListChanged c.1 w x × AllChanged changes old new
AllChanged (c ∷ changes) [] new = ⊥
AllChanged (c ∷ changes) (w ∷ old) [] = ⊥

-- what is to change in each area, and the areas that are active then
pub record PlanValue : Type 0 where
  pub areas : List AreaPlan
  pub active : List ℕ

-- the plan may be carried out
abbrev pub IsReady : PlanValue → DueSummariesValue → Type 0
IsReady plan w = AllFit plan.areas w.areas

-- it makes the one of the other
pub record IsCarriedOut (plan : PlanValue) (old new : DueSummariesValue) : Type 0 where
  pub active : new.active ≡ plan.active
  pub lists : AllChanged (changes_of plan.areas) old.areas new.areas

-- carried out, the plan makes the lists those of the inputs
abbrev pub MakesSummariesOf : SummaryInputsValue → DueSummariesValue → PlanValue → Type 0
MakesSummariesOf v w plan = (after : DueSummariesValue) → IsCarriedOut plan w after → AreSummariesOf v after

-- carried out, the plan changes just what differs from the lists before
abbrev pub MakesChangesFrom : DueSummariesValue → DueSummariesValue → PlanValue → Type 0
MakesChangesFrom old w plan = (after : DueSummariesValue) → IsCarriedOut plan w after → AreDueChanges (changes_of plan.areas) (lists_of old) (lists_of after)
