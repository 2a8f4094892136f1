-- The due summaries by the kept results of a state.
--   due_right: it is what the definitions say
--   due_alike: it belongs to a state that looks alike
--   due_before: what it rests on differs in no more than is named
use Rattle.std.proofs.Common.{◌≡◌, ℕ, List, [], ◌∷◌, map, Some, refl, sym, ap, subst, ◌∙◌}
use Rattle.std.specs.Prelude.{◌↔◌, IsTrue}
use Rattle.std.specs.Cmp.{nat_cmp_total}
use Rattle.std.specs.FinMap.{entries}
use Rattle.std.specs.List.{Contains}
use Rattle.ospf_types.specs.declared.config.AreaConfig.{AreaConfig}
use Rattle.ospf_types.specs.declared.config.Config.{Config}
use Rattle.ospf_types.specs.declared.config.Interface.{Interface}
use Rattle.ospf_types.specs.declared.key.Dest.{Dest}
use Rattle.ospf_types.specs.Inputs.{Area, IsActive}
use Rattle.ospf_types.proofs.RangeChanges.{areas_kept}
use Rattle.summaries.specs.Changes.{InputsDifferAmong}
use Rattle.summaries.specs.DueSummaries.{DueSummariesValue, AreSummariesOf}
use Rattle.summaries.specs.Inputs.{SummaryInputsValue}
use Rattle.summaries.specs.Right.{AreConfigured, AreInputsOf, IsRightFor}
use Rattle.summaries.proofs.Right.{summaries_right}
use Rattle.event_state.specs.States.{State, LooksAlike, inputs_of}
use Rattle.calculation.specs.Calculations.{CalculationValue, IsCalculationOf}
use Rattle.route_layers.specs.Layers.{IsUpIn}
use Rattle.route_layers.specs.Layers.{AreActiveIn, AreActive}
use Rattle.calculation.specs.Summaries.{AreSummariesFor, SummariesDifferAmong, summary_inputs}
use Rattle.route_layers.specs.Works.{area_of}
use Rattle.route_layers.proofs.Above.{apart_areas}
use Rattle.route_layers.proofs.Examining.{active_in, active_from}
use Rattle.event_state.proofs.Sorted.{value_from}

due_configured : (s : State) (areas : List AreaConfig) → AreConfigured (map (area_of s) areas) areas
due_configured s [] = tt
due_configured s (a ∷ areas) = (refl, refl, refl, due_configured s areas)

module _ (s : State) (active : List ℕ) (are : AreActive s active) (c : CalculationValue) (is : IsCalculationOf s c) where
  areas_active : (area : ℕ) → Contains active area ↔ ((a : Area) × IsActive (inputs_of s) a × (a.id ≡ area))
  areas_active area = (
    λ h. let w = (are area).0 h in (area_of s w.0, active_in s w.0 w.1 w.3, w.2),
    λ w. let b = active_from s w.0 w.1 in (are area).1 (b.0, b.1, b.2 ∙ w.2, b.3),
  )

  one_interface : (id : ℕ) (i j : Interface) → Contains (entries s.interfaces) (id, i) → Contains (entries s.interfaces) (id, j) → i ≡ j
  one_interface id i j first second =
      let same : Some i ≡ Some j = sym (value_from s.interfaces id i nat_cmp_total first) ∙ value_from s.interfaces id j nat_cmp_total second in
      cc

  pub due_are : AreInputsOf (inputs_of s) (summary_inputs s active c)
  due_are = record {
    areas = due_configured s s.config.areas;
    apart = apart_areas s s.config.areas is.fit.apart;
    interfaces = one_interface;
    active = areas_active;
    intra = is.routed;
    ranges = is.active;
    inter = is.between;
    external = is.outside;
  }

-- it is what the definitions say
pub due_right : (s : State) (c : CalculationValue) (w : DueSummariesValue) → IsCalculationOf s c → AreSummariesFor s c w → IsRightFor (inputs_of s) w
due_right s c w is due = summaries_right (inputs_of s) (summary_inputs s due.0 c) w (due_are s due.0 due.1 c is) due.2

-- it rests on the configuration, the interfaces and what is kept alone
pub due_alike : (s t : State) (c : CalculationValue) (w : DueSummariesValue) → LooksAlike s t → AreSummariesFor s c w → AreSummariesFor t c w
due_alike s t c w looks due =
    let areas : s.config.areas ≡ t.config.areas = ap (λ (k : Config). k.areas) looks.config in
    let there : (area : ℕ) → IsUpIn s area → IsUpIn t area = λ area up.
    subst (λ (list : List (ℕ × Interface)). (id : ℕ) × (i : Interface) × Contains list (id, i) × (i.area ≡ area) × IsTrue i.up) (ap entries looks.interfaces) up in
    let back : (area : ℕ) → IsUpIn t area → IsUpIn s area = λ area up.
    subst (λ (list : List (ℕ × Interface)). (id : ℕ) × (i : Interface) × Contains list (id, i) × (i.area ≡ area) × IsTrue i.up) (sym (ap entries looks.interfaces)) up in
    let active : AreActiveIn t s.config.areas due.0 = λ area. (
      λ h. let x = (due.1 area).0 h in (x.0, x.1, x.2, there x.0.id x.3),
      λ x. (due.1 area).1 (x.0, x.1, x.2, back x.0.id x.3),
    ) in (
      due.0,
      subst (λ (list : List AreaConfig). AreActiveIn t list due.0) areas active,
      subst (λ (list : List AreaConfig). AreSummariesOf (record { areas = list; active = due.0; intra = c.intra; ranges = c.active; inter = c.inter; external = c.external }) w) areas due.2,
    )

-- what it rests on differs in no more than is named
pub due_before : (s t : State) (dests : List Dest) (old new : CalculationValue) (w : DueSummariesValue) (active : List ℕ) → AreSummariesFor s old w → SummariesDifferAmong dests s t old new
    → (before : SummaryInputsValue) × AreSummariesOf before w × InputsDifferAmong dests before (summary_inputs t active new)
due_before s t dests old new w active due differ = (
  summary_inputs s due.0 old,
  due.2,
  record {
    areas = areas_kept t.config s.config differ.areas;
    range = differ.range;
    ranges = differ.ranges;
    whole = differ.whole;
    intra = differ.routes.intra;
    members = differ.routes.members;
    inter = differ.routes.inter;
    preferred = differ.routes.preferred;
  },
)
