-- The work of an event, area by area, and the whole as their sum.
use Rattle.std.specs.Prelude.{◌≡◌, List}
use Rattle.std.specs.List.{sum_by}
use Rattle.spf.specs.Touched.{Touched}
use Rattle.calculation.specs.Calculations.{CalculationValue, IsCalculationOf}
use Rattle.calculation.specs.Works.{AreWorksOf, AreWorksForAll}
use Rattle.event_state.specs.States.{State}

-- the sum of the works
abbrev pub IsSum : List Touched → Touched → Type 0
IsSum works w = (w.taken ≡ sum_by (λ (x : Touched). x.taken) works) × (w.hop_sets ≡ sum_by (λ (x : Touched). x.hop_sets) works)

-- the work of an event that follows the state before: in each area it is bounded by what differs
abbrev pub IsFollowingWork : State → State → Touched → Type 0
IsFollowingWork s t w = (works : List Touched) × AreWorksOf s t s.config.areas t.config.areas works × IsSum works w

-- the work of an event for which everything is built: in each area by what is reached
abbrev pub IsBuildingWork : State → Touched → Type 0
IsBuildingWork s w = (c : CalculationValue) × IsCalculationOf s c × ((works : List Touched) × AreWorksForAll c.trees works × IsSum works w)
