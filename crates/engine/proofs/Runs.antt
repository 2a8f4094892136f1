-- Runs of lists of events, and what a core says of the whole list, across rolls.
--   legal_more: a legal list with one event more
--   legal_core, legal_built, table_core, table_whole: for a core whose base has rolled events
--   refused_whole, looks_whole: the core's answer to an event
use Rattle.std.proofs.Common.{◌≡◌, ◌+◌, ℕ, zero, suc, List, [], ◌∷◌, ◌++◌, length, take, None, refl, sym, ap, subst, ◌∙◌}
use Rattle.std.specs.Prelude.{◌⊎◌, ◌↔◌, Option, Some}
use Rattle.std.proofs.Math.Seq.{take-length}
use Rattle.ospf_types.specs.FirstOf.{first_of}
use Rattle.ospf_types.specs.Inputs.{Inputs}
use Rattle.event_state.specs.declared.base.Base.{Base}
use Rattle.event_state.specs.declared.event.Event.{Event}
use Rattle.event_state.specs.declared.event.Event.TheVariants as event
use Rattle.event_state.specs.declared.limits.Limits.{Limits}
use Rattle.event_state.specs.declared.refusal.Refusal.{Refusal}
use Rattle.event_state.specs.declared.refusal.Refusal.TheVariants as refusal
use Rattle.event_state.specs.Refusals.{IsRefusalOf, IsLastingRefusalOf}
use Rattle.event_state.specs.Rolls.{since, IsRolled}
use Rattle.event_state.specs.States.{State, LooksAlike, inputs_of, serial_of}
use Rattle.event_state.specs.Steps.{opening, step, early_tests_of, lasting_refusal_of, refusal_of, run_of, standard_limits, AreTaken, IsLegalList}
use Rattle.event_core.specs.Cores.{CoreValue, IsCore}
use Rattle.event_state.proofs.Lasting.{taken_lasts, refusal_lasts}
use Rattle.event_state.proofs.Rolls.{taken_append, whole_content, whole_legal, whole_refusal, whole_serial}
use Rattle.route_table.specs.Right.{IsRoutingTable}
use Rattle.publication.specs.Published.{IsLegalHistory, IsTableFor}

taken_take : (s : State) (n : ℕ) (events : List Event) → AreTaken s events → AreTaken s (take n events)
taken_take s zero events taken = tt
taken_take s (suc n) [] taken = tt
taken_take s (suc n) (e ∷ events) taken = (taken.0, taken_take (step s e) n events taken.1)

-- a legal list with an event that is accepted then is legal
pub legal_more : (base : Base) (events : List Event) (e : Event) → IsLegalHistory base events → lasting_refusal_of (run_of base standard_limits events) e ≡ None → IsLegalHistory base (events ++ e ∷ [])
legal_more base events e legal accepted = taken_append (opening base standard_limits) events (e ∷ []) legal (accepted, tt)

-- ---- what is seen of a state rests neither on its base nor on its journal

early_since : (b : Base) (s : State) (e : Event) → first_of (early_tests_of (since b s) e) ≡ first_of (early_tests_of s e)
early_since b s (event.Install at l) = refl
early_since b s (event.Flush at key) = refl
early_since b s (event.Purge at key) = refl
early_since b s (event.Interface id area address peer up) = refl
early_since b s (event.RangeSet area prefix advertise) = refl
early_since b s (event.RangeDrop area prefix) = refl
early_since b s event.Second = refl

looks_since : (b : Base) (s t : State) → LooksAlike s t → LooksAlike (since b s) (since b t)
looks_since b s t h = record { config = h.config; usable = h.usable; interfaces = h.interfaces }

looks_from : (b : Base) (s t : State) → LooksAlike (since b s) (since b t) → LooksAlike s t
looks_from b s t h = record { config = h.config; usable = h.usable; interfaces = h.interfaces }

-- two states that differ only in base and journal look alike if two others do that are the same as
-- these
pub looks_across : (b : Base) (s t u v : State) → since b s ≡ since b u → since b t ≡ since b v → LooksAlike s t ↔ LooksAlike u v
looks_across b s t u v one two = (
  λ h. looks_from b u v (subst (λ (z : State × State). LooksAlike z.0 z.1) (λ i. (one i, two i)) (looks_since b s t h)),
  λ h. looks_from b s t (subst (λ (z : State × State). LooksAlike z.0 z.1) (λ i. (sym one i, sym two i)) (looks_since b u v h)),
)

early_same : (b : Base) (s t : State) (e : Event) → since b s ≡ since b t → first_of (early_tests_of s e) ≡ first_of (early_tests_of t e)
early_same b s t e same = sym (early_since b s e) ∙ ap (λ (v : State). first_of (early_tests_of v e)) same ∙ early_since b t e

-- ---- of a core whose base these events were rolled into

module _ (first : Base) (rolled : List Event) (c : CoreValue) (is : IsRolled first standard_limits rolled c.base) (limits : c.limits ≡ standard_limits) where
  -- a state of the core's is that after the whole list
  pub whole_state : (list : List Event) → since first (run_of c.base c.limits list) ≡ since first (run_of first standard_limits (rolled ++ list))
  whole_state list = ap (λ (l : Limits). since first (run_of c.base l list)) limits ∙ whole_content first standard_limits rolled c.base is first list

  pub serial_whole : (list : List Event) → serial_of (run_of c.base c.limits list) ≡ first.serial + length (rolled ++ list)
  serial_whole list = ap (λ (l : Limits). serial_of (run_of c.base l list)) limits ∙ whole_serial first standard_limits rolled c.base is list

  legal_own : IsCore c → IsLegalList c.base standard_limits c.journal
  legal_own core = subst (λ (l : Limits). IsLegalList c.base l c.journal) limits core.legal

  pub legal_core : IsCore c → IsLegalHistory first (rolled ++ c.journal)
  legal_core core = whole_legal first standard_limits rolled c.base is c.journal (legal_own core)

  pub legal_built : IsCore c → IsLegalHistory first (rolled ++ take c.built c.journal)
  legal_built core =
      whole_legal first standard_limits rolled c.base is (take c.built c.journal) (taken_take (opening c.base standard_limits) c.built c.journal (legal_own core))

  -- its table is right for the events that it was built of
  pub table_core : IsCore c → IsTableFor first (rolled ++ take c.built c.journal) c.table
  table_core core =
      let list = take c.built c.journal in
      let inputs : inputs_of (run_of c.base c.limits list) ≡ inputs_of (run_of first standard_limits (rolled ++ list)) = ap inputs_of (whole_state list) in
      (legal_built core, subst (λ (z : Inputs × ℕ). IsRoutingTable z.0 z.1 c.table) (λ i. (inputs i, serial_whole list i)) core.right)

  -- where all was built, it is right for the whole list
  pub table_whole : IsCore c → c.built ≡ length c.journal → IsTableFor first (rolled ++ c.journal) c.table
  table_whole core all =
      let same : take c.built c.journal ≡ c.journal = ap (λ (n : ℕ). take n c.journal) all ∙ take-length c.journal in
      subst (λ (list : List Event). IsTableFor first (rolled ++ list) c.table) same (table_core core)

  lasting_whole : (e : Event) → lasting_refusal_of (run_of c.base c.limits c.journal) e ≡ lasting_refusal_of (run_of first standard_limits (rolled ++ c.journal)) e
  lasting_whole e = ap (λ (l : Limits). lasting_refusal_of (run_of c.base l c.journal) e) limits ∙ whole_refusal first standard_limits rolled c.base is c.journal e

  -- an event that the core takes may be taken after the whole list
  pub accepted_whole : (e : Event) → refusal_of (run_of c.base c.limits c.journal) e ≡ None → lasting_refusal_of (run_of first standard_limits (rolled ++ c.journal)) e ≡ None
  accepted_whole e none = sym (lasting_whole e) ∙ taken_lasts (run_of c.base c.limits c.journal) e none

  -- an event that it refuses is refused there; a full journal is a reason of the core alone
  pub refused_whole : (e : Event) (r : Refusal) → IsRefusalOf (run_of c.base c.limits c.journal) e r → IsLastingRefusalOf (run_of first standard_limits (rolled ++ c.journal)) e r
  refused_whole e r refused =
      let here = run_of c.base c.limits c.journal in
      let there = run_of first standard_limits (rolled ++ c.journal) in
      let early = early_same first here there e (whole_state c.journal) in
      subst (λ (z : Option Refusal × Option Refusal). (z.0 ≡ Some r) ⊎ (((r ≡ refusal.Memory) × (z.0 ≡ None)) ⊎ ((r ≡ refusal.JournalFull) × (z.1 ≡ None)))) (λ i. (lasting_whole e i, early i))
      (refusal_lasts here e r refused)
