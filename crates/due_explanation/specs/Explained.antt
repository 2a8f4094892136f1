-- The reason why a summary is due in an area, or is not, by the results calculated of a state (RFC
-- 2328, 12.4.3).
use Rattle.std.specs.Prelude.{ℕ, ◌≡◌, ◌↔◌, List, Contains, Option, Some}
use Rattle.ospf_types.specs.declared.key.Dest.{Dest}
use Rattle.ospf_types.specs.Inputs.{Area}
use Rattle.ospf_types.specs.Summaries.{IsDue}
use Rattle.event_state.specs.States.{State, inputs_of}
use Rattle.route_layers.specs.Layers.{AreActive}
use Rattle.calculation.specs.Calculations.{CalculationValue, IsCalculationOf}
use Rattle.calculation.specs.Summaries.{summary_inputs}
use Rattle.due_explanation.specs.Reasons.{IsExplained}
use Rattle.due_explanation.specs.declared.due.DueExplained.{DueExplained}

-- by the definitions, the summary is due at this metric in the area with the Area ID
abbrev pub IsDueAt : State → ℕ → Dest → ℕ → Type 0
IsDueAt s id d metric = (a : Area) × Contains (inputs_of s).areas a × (a.id ≡ id) × IsDue (inputs_of s) a d metric

-- the metric at which it is due there, or `None` if it is not due or no area has the Area ID
abbrev pub IsDueMetric : State → ℕ → Dest → Option ℕ → Type 0
IsDueMetric s id d metric = (m : ℕ) → (metric ≡ Some m) ↔ IsDueAt s id d m

-- why, by what is calculated of the state
pub record IsDueExplained (s : State) (id : ℕ) (d : Dest) (x : DueExplained) : Type 0 where
  pub calculation : CalculationValue
  pub right : IsCalculationOf s calculation
  pub active : List ℕ
  pub active_is : AreActive s active
  pub why : IsExplained (summary_inputs s active calculation) id d x
