-- Seconds in which no LSA comes to MaxAge, and bases that rolls made.
use Rattle.std.proofs.Common.{◌≡◌, ◌<◌, ◌++◌, ℕ, Bool, false, List, [], ◌∷◌, length, get_or, Some, refl, sym, ap, subst, ◌∙◌, inl, inr, arith}
use Rattle.std.specs.Prelude.{All, ◌↔◌, Result, Ok, Err}
use Rattle.std.proofs.lemmas.Bool.{cases_eq}
use Rattle.ospf_types.specs.declared.config.AreaConfig.{AreaConfig}
use Rattle.ospf_types.specs.declared.key.Scope.{Scope}
use Rattle.ospf_types.specs.declared.key.Scope.TheVariants as scope
use Rattle.ospf_types.specs.declared.memory.Memory.{Memory}
use Rattle.lsdb.specs.Databases.{Database}
use Rattle.lsdb.specs.Contents.{NoneComes}
use Rattle.event_state.specs.declared.base.Base.{Base}
use Rattle.event_state.specs.declared.event.Event.{Event}
use Rattle.event_state.specs.declared.event.Event.TheVariants as event
use Rattle.event_state.specs.declared.limits.Limits.{Limits}
use Rattle.event_state.specs.Held.{AreFit, AreKept}
use Rattle.event_state.specs.Rolls.{IsBaseOf}
use Rattle.event_state.specs.States.{State, LooksAlike, place_of}
use Rattle.event_state.specs.Steps.{changed_by, opening, step, run_of}
use Rattle.event_state.proofs.Looks.{looks_later, looks_step}
use Rattle.event_state.proofs.Places.{no_area, place_at}
use Rattle.event_state.proofs.Rolls.{further_step}
use Rattle.event_core.specs.declared.reply.Reply.{Reply}
use Rattle.event_core.specs.declared.reply.Status.TheVariants.{Current}
use Rattle.event_core.specs.Cores.{CoreValue, DoesNothing, IsQuietSecond, Rolls, state_of}
use Rattle.event_core.specs.Following.{RoutesValue, IsStill}
use Rattle.event_core.specs.Kept.{core_of, IsBaseItself, IsCoherent}
use Rattle.event_core.proofs.Runs.{IsSettled}

-- each database is reached from its scope
reached : (areas : List AreaConfig) (databases : List Database) → AreFit areas databases → (k : ℕ) → k < length databases → (at : Scope) × (place_of areas at ≡ Some k)
reached areas databases fit k lt =
    elim (cases_eq k (length areas)) [
      | inl last ↦ (scope.As, ap (λ (n : ℕ). Some n) (sym last))
      | inr other ↦ (scope.Area (get_or areas k no_area).id, place_at areas k no_area fit.apart (omega (arith, lt, fit.places, other)))
    ]

kept_of_fit : (areas : List AreaConfig) (databases : List Database) → AreFit areas databases → AreKept areas databases
kept_of_fit areas databases fit = record { places = fit.places; fit = fit.fit; reached = λ k lt. inl (reached areas databases fit k lt) }

-- a second in which no LSA comes to MaxAge looks as before
looks_quiet : (s u : State) (r : RoutesValue) (built : ℕ) (e : Event) → IsCoherent s r built → AreFit s.config.areas s.databases → u ≡ step s e → IsQuietSecond (core_of s r built) e → LooksAlike s u
looks_quiet s u r built e kept fit is quiet =
    let none : All NoneComes s.databases = subst (λ (v : State). All NoneComes v.databases) (sym kept.run) quiet.none in
    let second : LooksAlike s (changed_by s event.Second) = (looks_later s (kept_of_fit s.config.areas s.databases fit)).0 none in
    let stepped : LooksAlike s (step s event.Second) = (looks_step s (changed_by s event.Second) (s.journal ++ event.Second ∷ [])).0 second in
    subst (λ (v : State). LooksAlike s v) (sym (is ∙ ap (step s) quiet.second)) stepped

module _ (s u : State) (r new : RoutesValue) (built : ℕ) (e : Event) (kept : IsCoherent s r built) (fit : AreFit s.config.areas s.databases) (is : u ≡ step s e) (result : Result (Unit {0}) Memory)
    (h : IsSettled s u r built result new) (reply : Reply) (changed : (reply.changed ≡ false) ↔ LooksAlike s u) (quiet : IsQuietSecond (core_of s r built) e) where
  quiet_still : IsStill result new
  quiet_still = h.still quiet.current (looks_quiet s u r built e kept fit is quiet)

  -- and nothing is done
  pub quiet_ok : (now : ℕ) → reply.state ≡ Current → DoesNothing reply (core_of u new now)
  quiet_ok now current = record {
    changed = changed.1 (looks_quiet s u r built e kept fit is quiet);
    state = current;
    work = quiet_still.work;
    changes = quiet_still.changes;
    due_changes = quiet_still.due_changes;
  }

  -- and nothing was refused
  pub quiet_err : (m : Memory) → result ≡ Err m → (now : ℕ) → DoesNothing reply (core_of u new now)
  quiet_err m err now = let wrong : ◌≡◌ {A = Result (Unit {0}) Memory} (Ok tt) (Err m) = sym quiet_still.settled ∙ err in absurd cc

-- a base that is its own state is so after an event
pub base_itself_later : (s u : State) (rolled : Bool) (e : Event) → u ≡ step s e → IsBaseItself rolled s → IsBaseItself rolled u
base_itself_later s u rolled e is itself =
    subst (IsBaseItself rolled) (sym is)
    (λ from_roll. let further = further_step s e in
    subst (λ (b : Base). IsBaseOf (opening b (step s e).limits) b) (sym further.base) (subst (λ (most : Limits). IsBaseOf (opening s.base most) s.base) (sym further.limits) (itself from_roll)))

-- a roll of a core whose base is the state as it is already leaves it as it was
pub rolls_again : (c : CoreValue) → c.built ≡ length c.journal → c.journal ≡ [] → IsBaseOf (state_of c) c.base → Rolls c c
rolls_again c all none base =
    let state : state_of c ≡ opening c.base c.limits = ap (run_of c.base c.limits) none in
    record {
      base = base;
      state = subst (λ (s : State). s ≡ record s { base = c.base; journal = [] }) (sym state) refl;
      limits = refl;
      journal = none;
      built = all ∙ ap (λ (events : List Event). length events) none;
      table = refl;
      summaries = refl;
      work = refl;
      changes = refl;
      due_changes = refl;
    }

-- the base that a state was rolled into is the state that it opens
pub base_itself_rolled : (s u : State) (b : Base) → IsBaseOf s b → u ≡ record s { base = b; journal = [] } → u ≡ opening b s.limits → IsBaseOf (opening u.base u.limits) u.base
base_itself_rolled s u b is since_is again =
    let base : u.base ≡ b = ap (λ (v : State). v.base) since_is in
    let limits : u.limits ≡ s.limits = ap (λ (v : State). v.limits) since_is in
    subst (λ (p : Base × Limits). IsBaseOf (opening p.0 p.1) p.0) (λ i. (sym base i, sym limits i))
    (subst (λ (v : State). IsBaseOf v b) again (subst (λ (v : State). IsBaseOf v b) (sym since_is) (record { config = is.config; serial = omega arith; interfaces = is.interfaces; lsas = is.lsas })))
