-- The inputs of the layers of routes, taken from a state.
use Rattle.std.specs.Prelude.{ℕ, ◌≡◌, ◌↔◌, IsTrue, List, Contains, Option, Some, None, map as list_map}
use Rattle.std.specs.FinMap as map
use Rattle.std.specs.FinMap.{entries}
use Rattle.ospf_types.specs.declared.config.AreaConfig.{AreaConfig}
use Rattle.ospf_types.specs.declared.config.Interface.{Interface}
use Rattle.ospf_types.specs.declared.key.Scope.TheVariants.{Area, As}
use Rattle.ospf_types.specs.Inputs.{Area as InputArea}
use Rattle.ospf_types.specs.Ranges.{IsExamined}
use Rattle.intra.specs.Intras.{IntraValue}
use Rattle.active_ranges.specs.Active.{ActiveValue}
use Rattle.inter.specs.Inputs.{ExaminedValue, InterInputsValue}
use Rattle.inter.specs.Inters.{InterValue, IsInterOf}
use Rattle.external.specs.Inputs.{ExternalInputsValue}
use Rattle.event_state.specs.States.{State, database_of, inputs_of}
use Rattle.route_layers.specs.Trees.{lsas_in}

-- one of these interfaces is up in the area
abbrev pub IsUpAmong : List (ℕ × Interface) → ℕ → Type 0
IsUpAmong list area = (id : ℕ) × (i : Interface) × Contains list (id, i) × (i.area ≡ area) × IsTrue i.up

-- the area has an interface that is up
abbrev pub IsUpIn : State → ℕ → Type 0
IsUpIn s area = IsUpAmong (entries s.interfaces) area

-- the area whose summaries are examined, with its LSAs, or `None` if no area is active
abbrev pub IsExaminedOf : State → Option ExaminedValue → Type 0
IsExaminedOf s None = (a : InputArea) → IsExamined (inputs_of s) a → ⊥
IsExaminedOf s (Some x) = ((a : InputArea) × IsExamined (inputs_of s) a × (a.id ≡ x.area)) × (x.lsas ≡ lsas_in (database_of s (Area x.area)))

-- what inter-area routes are calculated from
abbrev pub inter_inputs : State → Option ExaminedValue → IntraValue → ActiveValue → InterInputsValue
inter_inputs s examined intra active = record { root = s.config.router; examined = examined; intra = intra; active = active }

-- what external routes are calculated from
abbrev pub external_inputs : State → IntraValue → ActiveValue → InterValue → ExternalInputsValue
external_inputs s intra active inter = record {
  root = s.config.router;
  compat = s.config.compat;
  areas = list_map (λ (a : AreaConfig). a.id) s.config.areas;
  lsas = lsas_in (database_of s As);
  intra = intra;
  active = active;
  inter = inter;
}

-- the Area IDs of those of the areas that have an interface that is up
abbrev pub AreActiveIn : State → List AreaConfig → List ℕ → Type 0
AreActiveIn s areas active = (area : ℕ) → Contains active area ↔ ((a : AreaConfig) × Contains areas a × (a.id ≡ area) × IsUpIn s a.id)

-- of all areas
abbrev pub AreActive : State → List ℕ → Type 0
AreActive s active = AreActiveIn s s.config.areas active

-- the inter-area routes belong to the state, by the summaries of the area that is examined
abbrev pub IsInterFor : State → IntraValue → ActiveValue → InterValue → Type 0
IsInterFor s intra active inter = (examined : Option ExaminedValue) × IsExaminedOf s examined × IsInterOf (inter_inputs s examined intra active) inter
