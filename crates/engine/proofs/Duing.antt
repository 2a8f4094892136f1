-- The summaries due in an area, and the test if the area is configured.
use Rattle.std.proofs.Common.{◌≡◌, ℕ, List, take, Option, Some, None, sym, ap, subst, ◌∙◌}
use Rattle.std.specs.Prelude.{◌++◌}
use Rattle.ospf_types.specs.declared.config.AreaConfig.{AreaConfig}
use Rattle.ospf_types.specs.Inputs.{Area, Inputs}
use Rattle.ospf_types.specs.declared.key.Scope.TheVariants as scope
use Rattle.ospf_types.specs.RangeChanges.{without_ranges}
use Rattle.ospf_types.proofs.Elements.{mapped_element, mapped_from}
use Rattle.event_core.specs.DueSummary.{DueSummary}
use Rattle.event_state.specs.declared.base.Base.{Base}
use Rattle.event_state.specs.declared.event.Event.{Event}
use Rattle.event_state.specs.Rolls.{IsRolled}
use Rattle.event_state.specs.States.{State, lsas_of, database_of, inputs_of}
use Rattle.event_state.specs.Steps.{standard_limits}
use Rattle.event_state.proofs.KeptConfigs.{kept_since}
use Rattle.event_core.specs.Cores.{CoreValue, built_state}
use Rattle.event_core.specs.Right.{IsDueAmong, IsDueIn}
use Rattle.engine.specs.Answers.{HasArea, after}
use Rattle.engine.proofs.Areas.{has_same}
use Rattle.engine.proofs.Runs.{whole_state}

-- an area of the state, as it is configured
abbrev area_in : State → AreaConfig → Area
area_in s a = record { id = a.id; stub = a.stub; ranges = a.ranges; lsas = lsas_of (database_of s (scope.Area a.id)) }

in_state : (s : State) (area : ℕ) (list : List DueSummary) → IsDueIn s area (Some list) → HasArea s.config area
in_state s area list due =
    let from = mapped_from (area_in s) s.config.areas due.0 due.1 in
    (from.0, from.1, ap (λ (a : Area). a.id) from.2 ∙ due.2)

not_in_state : (s : State) (area : ℕ) → IsDueIn s area None → ¬ HasArea s.config area
not_in_state s area none has = none (area_in s has.0) (mapped_element (area_in s) s.config.areas has.0 has.1) has.2

-- for a core whose base these events were rolled into
module _ (first : Base) (rolled : List Event) (core : CoreValue) (is : IsRolled first standard_limits rolled core.base) (limits : core.limits ≡ standard_limits) where
  -- a summary that is due in the built state is due after the list that was built
  pub due_after : (area : ℕ) (list : List DueSummary) (found : Option (List DueSummary)) → found ≡ Some list → IsDueIn (built_state core) area found
      → IsDueIn (after first (rolled ++ take core.built core.journal)) area (Some list)
  due_after area list found has due =
      let built = take core.built core.journal in
      let inputs : inputs_of (built_state core) ≡ inputs_of (after first (rolled ++ built)) = ap inputs_of (whole_state first rolled core is limits built) in
      subst (λ (z : Inputs × Option (List DueSummary)). IsDueAmong z.0 z.0.areas area z.1) (λ i. (inputs i, has i)) due

  areas_first : without_ranges (built_state core).config ≡ without_ranges first.config
  areas_first =
      let built = take core.built core.journal in
      ap (λ (s : State). without_ranges s.config) (whole_state first rolled core is limits built) ∙ kept_since first standard_limits (rolled ++ built)

  -- where something is due, be it an empty list, the area is configured
  pub has_area : (area : ℕ) (list : List DueSummary) (found : Option (List DueSummary)) → found ≡ Some list → IsDueIn (built_state core) area found → HasArea first.config area
  has_area area list found has due =
      has_same (built_state core).config first.config area areas_first (in_state (built_state core) area list (subst (IsDueIn (built_state core) area) has due))

  -- where there is no list, it is not
  pub has_no_area : (area : ℕ) (found : Option (List DueSummary)) → found ≡ None → IsDueIn (built_state core) area found → ¬ HasArea first.config area
  has_no_area area found none due = λ has.
      not_in_state (built_state core) area (subst (IsDueIn (built_state core) area) none due)
      (has_same first.config (built_state core).config area (sym areas_first) has)
