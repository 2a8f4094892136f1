-- The plans of the areas, made one by one.
use Rattle.std.specs.Prelude.{ℕ, ◌≡◌, List, [], ◌∷◌, map, take, drop}
use Rattle.ospf_types.specs.declared.config.AreaConfig.{AreaConfig}
use Rattle.ospf_types.specs.declared.key.Dest.{Dest}
use Rattle.summary_lists.specs.declared.plan.AreaPlan.{AreaPlan}
use Rattle.summaries.specs.Inputs.{SummaryInputsValue}
use Rattle.summary_lists.specs.Lists.{AreaSummariesValue}
use Rattle.summaries.specs.DueSummaries.{listed}
use Rattle.summaries.specs.Changes.{AreChangesIn}
use Rattle.summary_lists.specs.Plans.{Fits}

-- an area, its list before and after, and its plan
pub record SummaryTurn : Type 0 where
  pub area : AreaConfig
  pub old : AreaSummariesValue
  pub new : AreaSummariesValue
  pub plan : AreaPlan

-- the plan makes just the changes among these destinations; the list stays, and has room for it
pub record IsSummaryTurn (v : SummaryInputsValue) (dests : List Dest) (x : SummaryTurn) : Type 0 where
  pub of_area : x.plan.area ≡ x.old.area
  pub changes : AreChangesIn v x.area x.old.list dests x.plan.metrics.items
  pub same_area : x.new.area ≡ x.old.area
  pub same_list : x.new.list ≡ x.old.list
  pub fits : Fits x.plan x.new

abbrev pub AreSummaryTurns : SummaryInputsValue → List Dest → List SummaryTurn → Type 0
AreSummaryTurns v dests [] = Unit {0}
AreSummaryTurns v dests (x ∷ xs) = IsSummaryTurn v dests x × AreSummaryTurns v dests xs

-- the area has its plan
abbrev pub IsPlannedIn : SummaryInputsValue → List Dest → AreaConfig → AreaSummariesValue → AreaSummariesValue → AreaPlan → Type 0
IsPlannedIn v dests a old new plan = IsSummaryTurn v dests (record { area = a; old = old; new = new; plan = plan })

-- each of these areas has its plan
pub record ArePlanned (v : SummaryInputsValue) (dests : List Dest) (areas : List AreaConfig) (old new : List AreaSummariesValue) (plans : List AreaPlan) : Type 0 where
  pub turns : List SummaryTurn
  pub areas_are : map (λ (x : SummaryTurn). x.area) turns ≡ areas
  pub old_are : map (λ (x : SummaryTurn). x.old) turns ≡ old
  pub new_are : map (λ (x : SummaryTurn). x.new) turns ≡ new
  pub plans_are : map (λ (x : SummaryTurn). x.plan) turns ≡ plans
  pub each : AreSummaryTurns v dests turns

-- this many of the areas have their plans, and the other lists are unchanged
pub record ArePlannedTo (v : SummaryInputsValue) (dests : List Dest) (areas : List AreaConfig) (old new : List AreaSummariesValue) (plans : List AreaPlan) (i : ℕ) : Type 0 where
  pub first : ArePlanned v dests (take i areas) (take i old) (take i new) plans
  pub rest : drop i new ≡ drop i old
  pub same : listed new ≡ listed old
