-- Runs of events, and one event more.
use Rattle.std.proofs.Common.{◌≡◌, ℕ, ◌≤◌, take, List, [], ◌∷◌, ◌++◌, length, None, refl, sym, ap, subst, ◌∙◌, arith}
use Rattle.std.specs.Prelude.{Bool, false, ◌↔◌, ◌<◌, Result, Ok, Err, IfOk, OnOk, OnErr}
use Rattle.std.proofs.lemmas.List.{length-append, take-append-le, take_all}
use Rattle.event_state.specs.declared.base.Base.{Base}
use Rattle.event_state.specs.declared.event.Event.{Event}
use Rattle.event_state.specs.declared.limits.Limits.{Limits}
use Rattle.event_state.specs.BaseFaults.{base_fault_of}
use Rattle.event_state.specs.States.{State, LooksAlike, serial_of}
use Rattle.event_state.specs.Rolls.{since, IsBaseOf}
use Rattle.event_state.specs.Steps.{opening, step, refusal_of, run_of}
use Rattle.vertex_graph.specs.Graphs.{max_routers}
use Rattle.route_table.specs.Tables.{TableValue}
use Rattle.summaries.specs.DueSummaries.{lists_of}
use Rattle.event_core.specs.Right.{IsRight, AreDue}
use Rattle.event_core.specs.declared.reply.Reply.{Reply}
use Rattle.event_core.specs.declared.reply.Status.{Status}
use Rattle.event_core.specs.declared.reply.Status.TheVariants.{Current, Behind}
use Rattle.event_core.specs.Cores.{CoreValue, IsCore, IsTaken, Rolls, Applies, Tells, MatchesStatus, HasBoundedWork, NamesChanges, state_of}
use Rattle.event_core.specs.Kept.{core_of, IsCoherent}
use Rattle.event_state.specs.declared.refusal.Refusal.{Refusal}
use Rattle.ospf_types.specs.Configs.{config_fault_of}
use Rattle.ospf_types.specs.declared.memory.Memory.{Memory}
use Rattle.calculation.specs.Totals.{IsBuildWork}
use Rattle.calculation.specs.Works.{IsEventWork}
use Rattle.event_core.specs.Following.{RoutesValue, AreRoutesOf, IsStill, TellsChanges, no_work}
use Rattle.event_core.specs.Sums.{IsFollowingWork, IsBuildingWork}
use Rattle.event_state.specs.Held.{AreFit}
use Rattle.event_state.proofs.KeptConfigs.{sound_since}
use Rattle.event_state.proofs.Rolls.{further_step, run_append, taken_more}
use Rattle.event_state.proofs.Faultless.{faultless}
use Rattle.event_core.proofs.DueRight.{routes_due}
use Rattle.event_core.proofs.RoutesRight.{routes_right}
use Rattle.event_core.proofs.Settled.{routes_since}
use Rattle.event_core.proofs.Uncut.{event_uncut, build_uncut}

-- the configuration has no fault, as the base had none
pub sound_now : (s : State) (r : RoutesValue) (built : ℕ) → IsCoherent s r built → config_fault_of s.config ≡ None
sound_now s r built kept =
    ap (λ (v : State). config_fault_of v.config) kept.run
    ∙ sound_since s.base s.limits s.journal (faultless s.limits s.base kept.core.sound).config kept.core.legal

-- a run of the journal that is one event longer
step_runs : (s : State) (e : Event) → s ≡ run_of s.base s.limits s.journal → step s e ≡ run_of s.base s.limits (s.journal ++ e ∷ [])
step_runs s e run = ap (λ (t : State). step t e) run ∙ sym (run_append _ s.journal (e ∷ []))

-- no event was taken, and the routes belong to the opening state
pub kept_open : (base : Base) (limits : Limits) (s : State) (r : RoutesValue) → s ≡ opening base limits → base_fault_of limits base ≡ None → limits.area_lsas ≤ max_routers → AreRoutesOf s r → IsCoherent s r 0
kept_open base limits s r is sound few are =
    let first : State = opening base limits in
    let first_are = subst (λ (v : State). AreRoutesOf v r) is are in
    subst (λ (v : State). IsCoherent v r 0) (sym is) (record {
      run = refl;
      core = record { sound = sound; legal = tt; within = omega arith; right = routes_right first r first_are; due = routes_due first r first_are };
      fresh = λ _. first_are;
      few = few;
    })

-- the state is the base, and the routes are still those of the state
pub kept_roll : (s u : State) (r : RoutesValue) (built : ℕ) (b : Base) → IsCoherent s r built → built ≡ length s.journal → AreFit s.config.areas s.databases → IsBaseOf s b → base_fault_of s.limits b ≡ None
    → u ≡ since b s → u ≡ opening b s.limits → IsCoherent u r 0
kept_roll s u r built b kept all fit is sound since_is again =
    kept_open b s.limits u r again sound kept.few (subst (λ (v : State). AreRoutesOf v r) (sym since_is) (routes_since s b r is fit (kept.fresh all)))

-- and the core is rolled
pub rolls : (s u : State) (r : RoutesValue) (built : ℕ) (b : Base) → IsCoherent s r built → IsBaseOf s b → u ≡ since b s → u ≡ opening b s.limits → Rolls (core_of s r built) (core_of u r 0)
rolls s u r built b kept is since_is again =
    let base : u.base ≡ b = ap (λ (v : State). v.base) since_is in
    let limits : u.limits ≡ s.limits = ap (λ (v : State). v.limits) since_is in
    let journal : u.journal ≡ [] = ap (λ (v : State). v.journal) since_is in
    let now : state_of (core_of u r 0) ≡ since b s = (λ i. run_of (base i) (limits i) (journal i)) ∙ sym again ∙ since_is in
    record {
      base = subst (λ (z : State × Base). IsBaseOf z.0 z.1) (λ i. (kept.run i, sym base i)) is;
      state = now ∙ (λ i. since (sym base i) (kept.run i));
      limits = limits;
      journal = journal;
      built = refl;
      table = refl;
      summaries = refl;
      work = refl;
      changes = refl;
      due_changes = refl;
    }

-- an event more, and table and due summaries are unchanged, whatever else is kept
pub kept_behind : (s : State) (r new : RoutesValue) (built : ℕ) (e : Event) → IsCoherent s r built → refusal_of s e ≡ None → new.table ≡ r.table → lists_of new.summaries ≡ lists_of r.summaries → IsCoherent (step s e) new built
kept_behind s r new built e kept accepted table summaries =
    let setting = further_step s e in
    let runs : (base : Base) (limits : Limits) → base ≡ s.base → limits ≡ s.limits → step s e ≡ run_of base limits (s.journal ++ e ∷ []) = λ base limits p q. step_runs s e kept.run ∙ sym (λ i. run_of (p i) (q i) (s.journal ++ e ∷ [])) in
    let front : take built (s.journal ++ e ∷ []) ≡ take built s.journal = take-append-le built s.journal (e ∷ []) kept.core.within in
    let core : IsCore (record { base = s.base; limits = s.limits; journal = s.journal ++ e ∷ []; built = built; table = new.table; summaries = lists_of new.summaries; work = new.work; changes = new.changes; due_changes = new.due_changes }) = record {
      sound = kept.core.sound;
      legal = taken_more s.base s.limits s.journal e kept.core.legal (ap (λ (u : State). refusal_of u e) (sym kept.run) ∙ accepted);
      within = omega (arith, kept.core.within, length-append s.journal (e ∷ []));
      right = subst (λ (t : TableValue). IsRight (run_of s.base s.limits (take built (s.journal ++ e ∷ []))) t) (sym table)
          (subst (λ (events : List Event). IsRight (run_of s.base s.limits events) r.table) (sym front) kept.core.right);
      due = subst (AreDue (run_of s.base s.limits (take built (s.journal ++ e ∷ [])))) (sym summaries)
          (subst (λ (events : List Event). AreDue (run_of s.base s.limits events) (lists_of r.summaries)) (sym front) kept.core.due);
    } in
    record {
      run = runs (step s e).base (step s e).limits setting.base setting.limits;
      core = subst (λ (c : CoreValue). IsCore c) (λ i. record { base = sym setting.base i; limits = sym setting.limits i; journal = s.journal ++ e ∷ []; built = built; table = new.table; summaries = lists_of new.summaries; work = new.work; changes = new.changes; due_changes = new.due_changes }) core;
      fresh = λ all. absurd (omega (arith, all, kept.core.within, length-append s.journal (e ∷ [])));
      few = subst (λ (limits : Limits). limits.area_lsas ≤ max_routers) (sym setting.limits) kept.few;
    }

pub kept_step : (s : State) (r : RoutesValue) (built : ℕ) (e : Event) → IsCoherent s r built → refusal_of s e ≡ None → IsCoherent (step s e) r built
kept_step s r built e kept accepted = kept_behind s r r built e kept accepted refl refl

-- table and due summaries that are current
pub current_right : (c : CoreValue) → IsCore c → c.built ≡ length c.journal → IsRight (state_of c) c.table
current_right c core all = subst (λ (events : List Event). IsRight (run_of c.base c.limits events) c.table) (take_all c.built c.journal (omega arith)) core.right

pub current_due : (c : CoreValue) → IsCore c → c.built ≡ length c.journal → AreDue (state_of c) c.summaries
current_due c core all = subst (λ (events : List Event). AreDue (run_of c.base c.limits events) c.summaries) (take_all c.built c.journal (omega arith)) core.due

-- routes that are the state's make a core that is current
pub kept_current : (s : State) (r new : RoutesValue) (built now : ℕ) → IsCoherent s r built → now ≡ length s.journal → AreRoutesOf s new → IsCoherent s new now
kept_current s r new built now kept all are =
    let right = routes_right s new are in
    let due = routes_due s new are in
    let whole : take now s.journal ≡ s.journal = take_all now s.journal (omega arith) in
    let is : s ≡ run_of s.base s.limits (take now s.journal) = kept.run ∙ ap (run_of s.base s.limits) (sym whole) in
    record {
      run = kept.run;
      core = record { sound = kept.core.sound; legal = kept.core.legal; within = omega arith; right = subst (λ (v : State). IsRight v new.table) is right; due = subst (λ (v : State). AreDue v (lists_of new.summaries)) is due };
      fresh = λ _. are;
      few = kept.few;
    }

-- and so stand
pub stands_current : (s : State) (new : RoutesValue) (now : ℕ) (old : CoreValue) → IsCoherent s new now → now ≡ length s.journal → MatchesStatus old Current (core_of s new now)
stands_current s new now old kept all = (all, current_right (core_of s new now) kept.core all, current_due (core_of s new now) kept.core all)

stands_same : (s u : State) (r : RoutesValue) (built : ℕ) (standing : Status) (new : CoreValue) → MatchesStatus (core_of u r built) standing new → MatchesStatus (core_of s r built) standing new
stands_same s u r built Current new h = h
stands_same s u r built Behind new h = h

-- a step of the state, and then routes that stand, take the event
pub takes : (s u : State) (r : RoutesValue) (built : ℕ) (e : Event) (reply : Reply) (new : CoreValue) → IsCoherent s r built → u ≡ step s e → refusal_of s e ≡ None
    → (reply.changed ≡ false) ↔ LooksAlike s u → new.journal ≡ u.journal → new.base ≡ u.base → new.limits ≡ u.limits → MatchesStatus (core_of u r built) reply.state new → reply.serial ≡ serial_of u
    → IsTaken (core_of s r built) e reply new
takes s u r built e reply new kept is accepted changed journal base limits stands serial =
    let run_new : state_of new ≡ u = (λ i. run_of (base i) (limits i) (journal i)) ∙ sym (subst (λ (v : State). v ≡ run_of v.base v.limits v.journal) (sym is) (kept_step s r built e kept accepted).run) in
    let looks : LooksAlike s u → LooksAlike (state_of (core_of s r built)) (state_of new) = λ l. subst (λ (v : State). LooksAlike v (state_of new)) kept.run (subst (λ (v : State). LooksAlike s v) (sym run_new) l) in
    let back : LooksAlike (state_of (core_of s r built)) (state_of new) → LooksAlike s u = λ l. subst (λ (v : State). LooksAlike s v) run_new (subst (λ (v : State). LooksAlike v (state_of new)) (sym kept.run) l) in
    record {
      accepted = ap (λ (v : State). refusal_of v e) (sym kept.run) ∙ accepted;
      joins = journal ∙ ap (λ (v : State). v.journal) is;
      base = base ∙ ap (λ (v : State). v.base) is ∙ (further_step s e).base;
      limits = limits ∙ ap (λ (v : State). v.limits) is ∙ (further_step s e).limits;
      serial = serial ∙ ap serial_of (sym run_new);
      changed = (λ p. looks (changed.0 p), λ l. changed.1 (back l));
      stands = stands_same s u r built reply.state new stands;
    }

-- routes that follow an event or are built again after it, or were refused memory
pub record IsSettled (s u : State) (r : RoutesValue) (built : ℕ) (result : Result (Unit {0}) Memory) (new : RoutesValue) : Type 0 where
  pub right : OnOk result (AreRoutesOf u new)
  pub fit : OnOk result (AreFit u.config.areas u.databases)
  pub bounded : OnOk result (built ≡ length s.journal → IsEventWork s u new.work)
  pub exact : OnOk result (built ≡ length s.journal → TellsChanges r new)
  pub anew : OnOk result ((built ≡ length s.journal → ⊥) → IsBuildWork u new.work)
  pub unnamed : OnOk result ((built ≡ length s.journal → ⊥) → new.changes ≡ [])
  pub unnamed_due : OnOk result ((built ≡ length s.journal → ⊥) → new.due_changes ≡ [])
  pub unchanged : OnErr result (new.table ≡ r.table)
  pub due : OnErr result (lists_of new.summaries ≡ lists_of r.summaries)
  pub work : OnErr result (new.work ≡ no_work)
  pub changes : OnErr result (new.changes ≡ [])
  pub due_changes : OnErr result (new.due_changes ≡ [])
  pub still : built ≡ length s.journal → LooksAlike s u → IsStill result new

module _ (s u : State) (r new : RoutesValue) (built : ℕ) (e : Event) (kept : IsCoherent s r built) (is : u ≡ step s e) (accepted : refusal_of s e ≡ None) where
  settled_ok : (now : ℕ) → now ≡ length u.journal → AreRoutesOf u new → IsCoherent u new now
  settled_ok now all are = kept_current u r new built now (subst (λ (v : State). IsCoherent v r built) (sym is) (kept_step s r built e kept accepted)) all are

  settled_err : new.table ≡ r.table → lists_of new.summaries ≡ lists_of r.summaries → IsCoherent u new built
  settled_err table summaries = subst (λ (v : State). IsCoherent v new built) (sym is) (kept_behind s r new built e kept accepted table summaries)

  -- where the routes settle, the core is current
  pub coherent_ok : (result : Result (Unit {0}) Memory) (now : ℕ) → now ≡ length u.journal → result ≡ Ok tt → IsSettled s u r built result new → IsCoherent u new now
  coherent_ok (Ok x) now all ok h = settled_ok now all h.right
  coherent_ok (Err m) now all ok h = absurd cc

  -- and where they don't, it is behind
  pub coherent_err : (result : Result (Unit {0}) Memory) (m : Memory) → result ≡ Err m → IsSettled s u r built result new → IsCoherent u new built
  coherent_err (Ok x) m err h = absurd cc
  coherent_err (Err x) m err h = settled_err h.unchanged h.due

  pub taken_ok : (result : Result (Unit {0}) Memory) (now : ℕ) (reply : Reply) → now ≡ length u.journal → result ≡ Ok tt → IsSettled s u r built result new
      → (reply.changed ≡ false) ↔ LooksAlike s u → reply.state ≡ Current → reply.serial ≡ serial_of u → IsTaken (core_of s r built) e reply (core_of u new now)
  taken_ok result now reply all ok h changed current serial =
      let after = coherent_ok result now all ok h in
      takes s u r built e reply (core_of u new now) kept is accepted changed refl refl refl
      (subst (λ (standing : Status). MatchesStatus (core_of u r built) standing (core_of u new now)) (sym current) (stands_current u new now (core_of u r built) after all)) serial

  pub taken_err : (result : Result (Unit {0}) Memory) (m : Memory) (reply : Reply) → result ≡ Err m → IsSettled s u r built result new
      → (reply.changed ≡ false) ↔ LooksAlike s u → reply.state ≡ Behind → reply.serial ≡ serial_of u → IsTaken (core_of s r built) e reply (core_of u new built)
  taken_err (Ok x) m reply err h changed behind serial = absurd cc
  taken_err (Err x) m reply err h changed behind serial =
      let longer : built < length u.journal = omega (arith, kept.core.within, length-append s.journal (e ∷ []), ap (λ (v : State). length v.journal) is) in
      takes s u r built e reply (core_of u new built) kept is accepted changed refl refl refl
      (subst (λ (standing : Status). MatchesStatus (core_of u r built) standing (core_of u new built)) (sym behind) (refl, h.unchanged, h.due, longer)) serial

  pub bounded_ok : (result : Result (Unit {0}) Memory) (now : ℕ) → now ≡ length u.journal → result ≡ Ok tt → IsSettled s u r built result new → HasBoundedWork (core_of s r built) Current (core_of u new now)
  bounded_ok (Ok x) now all ok h =
      let after = settled_ok now all h.right in
      let before : config_fault_of s.config ≡ None = sound_now s r built kept in
      let sound : config_fault_of u.config ≡ None = sound_now u new now after in
      let follows : built ≡ length s.journal → IsFollowingWork s u new.work = λ current. event_uncut s u r.calculation new.calculation new.work before (kept.fresh current).calculation h.right.calculation (h.bounded current) in (
        λ current. subst (λ (v : State). IsFollowingWork v (state_of (core_of u new now)) new.work) kept.run (subst (λ (v : State). IsFollowingWork s v new.work) after.run (follows current)),
        λ behind. subst (λ (v : State). IsBuildingWork v new.work) after.run (build_uncut u new.work sound (h.anew behind)),
      )
  bounded_ok (Err m) now all ok h = absurd cc

  pub bounded_err : (result : Result (Unit {0}) Memory) (m : Memory) → result ≡ Err m → IsSettled s u r built result new → HasBoundedWork (core_of s r built) Behind (core_of u new built)
  bounded_err (Ok x) m err h = absurd cc
  bounded_err (Err x) m err h = h.work

  pub named_ok : (result : Result (Unit {0}) Memory) (now : ℕ) → result ≡ Ok tt → IsSettled s u r built result new → NamesChanges (core_of s r built) Current (core_of u new now)
  named_ok (Ok x) now ok h = (λ current. record { networks = (h.exact current).networks; due = (h.exact current).due }, λ behind. (h.unnamed behind, h.unnamed_due behind))
  named_ok (Err m) now ok h = absurd cc

  pub named_err : (result : Result (Unit {0}) Memory) (m : Memory) → result ≡ Err m → IsSettled s u r built result new → NamesChanges (core_of s r built) Behind (core_of u new built)
  named_err (Ok x) m err h = absurd cc
  named_err (Err x) m err h = (h.changes, h.due_changes)

-- what a core is made of then
pub record IsOutcome (s u : State) (r : RoutesValue) (built : ℕ) (was : Bool) (result : Result (Unit {0}) Memory) (state : State) (new : RoutesValue) (still : ℕ) (rolled : Bool) : Type 0 where
  pub state_is : state ≡ u
  pub still_is : still ≡ built
  pub rolled_is : rolled ≡ was
  pub settled : IsSettled s u r built result new

-- ---- a run of several events

-- the changes after one of them
pub tells : (old : CoreValue) (e : Event) (r : Result Reply Refusal) (new : CoreValue) → Applies old e r new → IfOk r (λ reply. NamesChanges old reply.state new) → IfOk r (λ reply. HasBoundedWork old reply.state new) → Tells old r new
tells old e (Ok reply) new applied changes work = (changes, work)
tells old e (Err refusal) new applied changes work =
    (ap (λ (c : CoreValue). c.changes) applied.unchanged, ap (λ (c : CoreValue). c.due_changes) applied.unchanged, ap (λ (c : CoreValue). c.work) applied.unchanged)
