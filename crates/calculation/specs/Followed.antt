-- The trees of the areas, followed from one state to another.
use Rattle.std.specs.Prelude.{ℕ, List, [], ◌∷◌, Option, Some, None, is_some}
use Rattle.ospf_types.specs.declared.key.Dest.{Dest}
use Rattle.ospf_types.specs.declared.key.Dest.TheVariants.{Net, Router}
use Rattle.ospf_types.specs.declared.key.Key.{Key}
use Rattle.ospf_types.specs.declared.key.Scope.{Scope}
use Rattle.ospf_types.specs.declared.prefix.Prefix.{Prefix}
use Rattle.spf.specs.Touched.{Touched}
use Rattle.area_trees.specs.Areas.{AreaTreeValue}
use Rattle.intra.specs.declared.dirty.Dirty.{Dirty}
use Rattle.intra.specs.Changes.{InputsDifferAmong}
use Rattle.active_ranges.specs.Active.{RangesDifferAt}
use Rattle.event_state.specs.States.{State}
use Rattle.calculation.specs.Calculations.{CalculationValue, IsCalculationOf}
use Rattle.route_layers.specs.Trees.{inputs_with, StatesDifferAmong}
use Rattle.route_layers.specs.Works.{IsEventWork}

-- a state of which this is the calculation, and from which the state now differs in no more than is
-- named
abbrev pub IsOutOfDateBy : List (Scope × Key) → List ℕ → Option (ℕ × Prefix) → CalculationValue → State → Type 0
IsOutOfDateBy keys ids range c t = (s : State) × IsCalculationOf s c × StatesDifferAmong keys ids (is_some range) s t × RangesDifferAt range s.config.areas t.config.areas

-- the work is within what such a state's event takes
abbrev pub IsWorkSince : List (Scope × Key) → List ℕ → Option (ℕ × Prefix) → CalculationValue → State → Touched → Type 0
IsWorkSince keys ids range c t work = (s : State) → IsCalculationOf s c → StatesDifferAmong keys ids (is_some range) s t → IsEventWork s t work

-- the layers of routes belong to a state before, of which no more differs than is named, but the
-- trees have followed already
abbrev pub AreLayersOutOfDateBy : State → Dirty → Option (ℕ × Prefix) → CalculationValue → Type 0
AreLayersOutOfDateBy t dirty range c = (s : State) × (trees : List AreaTreeValue) × IsCalculationOf s (record c { trees = trees }) × StatesDifferAmong dirty.keys.items dirty.interfaces.items (is_some range) s t
    × InputsDifferAmong dirty.keys.items dirty.vertices.items dirty.interfaces.items (inputs_with s trees) (inputs_with t c.trees) × RangesDifferAt range s.config.areas t.config.areas

-- the prefix of the range, if there is one
abbrev pub range_dests : Option (ℕ × Prefix) → List Dest
range_dests None = []
range_dests (Some range) = Net range.1 ∷ []

-- the routers among the destinations
abbrev pub routers_in : List Dest → List Dest
routers_in [] = []
routers_in (Net p ∷ dests) = routers_in dests
routers_in (Router r ∷ dests) = Router r ∷ routers_in dests
