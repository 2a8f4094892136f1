-- The work of an event, area by area.
use Rattle.std.specs.Prelude.{List}
use Rattle.spf.specs.Touched.{Touched}
use Rattle.area_trees.specs.Areas.{AreaTreeValue}
use Rattle.calculation.specs.Calculations.{CalculationValue, IsCalculationOf}
use Rattle.event_state.specs.States.{State}
use Rattle.route_layers.specs.Works.{AreWorksForAll, IsTotal}

-- the work of building these trees
abbrev pub IsWorkOfTrees : List AreaTreeValue → Touched → Type 0
IsWorkOfTrees trees w = (works : List Touched) × AreWorksForAll trees works × IsTotal works w

-- the work of building all that is kept of a state
abbrev pub IsBuildWork : State → Touched → Type 0
IsBuildWork s w = (c : CalculationValue) × IsCalculationOf s c × IsWorkOfTrees c.trees w
