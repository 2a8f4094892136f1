use Rattle.std.proofs.Common.{length, ap, subst, sym, refl, ◌∙◌}
use Rattle.std.specs.Prelude.{Bool, Result, is_some}
use Rattle.std.proofs.lemmas.Result.{on_ok_weaker, on_err_weaker}
use Rattle.ospf_types.specs.declared.memory.Memory.{Memory}
use Rattle.event_state.specs.States.{State}
use Rattle.calculation.specs.Active.{RangesDifferAt}
use Rattle.calculation.specs.Trees.{StatesDifferAmong}
use Rattle.event_core.specs.declared.core_state.Core.TheInside.{Inside}
use Rattle.event_core.specs.declared.reply.Reply.{Reply}
use Rattle.event_core.specs.declared.reply.Status.{Status}
use Rattle.event_core.specs.declared.reply.Status.TheVariants.{Current, Behind}
use Rattle.event_core.specs.Cores.{CoreValue, DoesNothing, IsQuietSecond, IsTaken, HasBoundedWork, NamesChanges}
use Rattle.event_core.specs.Kept.{IsBaseItself, IsCoherent, core_of}
use Rattle.event_state.proofs.Configs.{sound_apart}
use Rattle.event_core.proofs.Runs.{kept_step, sound_now, IsSettled, IsOutcome, coherent_ok, coherent_err, taken_ok, taken_err, bounded_ok, bounded_err, named_ok, named_err}
use Rattle.event_core.proofs.Quiet.{base_itself_later, quiet_ok, quiet_err}
use Rattle.event_core.proofs.core_state.Core.apply.Goals as goal
use Rattle.event_core.proofs.core_state.Core.apply.Goals.{then-is_current, else-is_current, in-Ok, in-Err, Joined-is_current}

pub settle-settled-requires-clause-before : goal.settle-settled-requires-clause-before
settle-settled-requires-clause-before c =
    let s = c.self.inside.state in
    let told = c.in_ok-serial.ensures in
    let named = c.in_ok-named.named in
    let differ = subst (λ (u : State). StatesDifferAmong named.keys.items named.interfaces.items (is_some named.range) s u) (sym told.taken) c.in_ok-named.ensures.named in
    let ranges = subst (λ (u : State). RangesDifferAt named.range s.config.areas u.config.areas) (sym told.taken) c.in_ok-named.ensures.ranges in
    (s, c.journal.ensures.fit (sound_apart s.config (sound_now s c.self.inside.routes c.self.inside.built c.self.invariant.0)), c.self.invariant.0.fresh (c.if-is_current.true ∙ ap length c.journal.ensures.value), differ, told.changed.0, ranges)

pub start_anew-settled-requires-clause-apart : goal.start_anew-settled-requires-clause-apart
start_anew-settled-requires-clause-apart c =
    let i = c.self.inside in
    let told = c.in_ok-serial.ensures in
    let stepped = subst (λ (v : State). IsCoherent v i.routes i.built) (sym told.taken) (kept_step i.state i.routes i.built c.args.event c.self.invariant.0 told.accepted) in
    sound_apart c.step.new.self.config (sound_now c.step.new.self i.routes i.built stepped)

outcome : (c : Joined-is_current) → IsOutcome c.self.inside.state c.step.new.self c.self.inside.routes c.self.inside.built c.self.inside.rolled c.if-is_current.settled c.if-is_current.self-inside.state c.if-is_current.self-inside.routes c.if-is_current.self-inside.built c.if-is_current.self-inside.rolled
outcome c =
    let i = c.self.inside in
    let s = i.state in
    let u = c.step.new.self in
    let told = c.in_ok-serial.ensures in
    let named = c.in_ok-named.named in
    let serial = ap length c.journal.ensures.value in
    elim c.if-is_current.branch [
      | then-is_current w ↦
          let did = w.settle-settled.ensures in
          let result = w.settle-settled.result in
          let differ = subst (λ (v : State). StatesDifferAmong named.keys.items named.interfaces.items (is_some named.range) s v) (sym told.taken) c.in_ok-named.ensures.named in
          let settled : IsSettled s u i.routes i.built result w.settle-settled.new.self = record {
            right = did.right;
            fit = did.fit;
            bounded = on_ok_weaker result (λ bounded. λ all. bounded s (c.journal.ensures.fit (sound_apart s.config (sound_now s c.self.inside.routes c.self.inside.built c.self.invariant.0))) (c.self.invariant.0.fresh all) differ told.changed.0) did.bounded;
            exact = on_ok_weaker result (λ exact. λ all. exact) did.exact;
            anew = on_ok_weaker result (λ right. λ behind. absurd (behind (w.if-is_current.true ∙ serial))) did.right;
            unnamed = on_ok_weaker result (λ right. λ behind. absurd (behind (w.if-is_current.true ∙ serial))) did.right;
            unnamed_due = on_ok_weaker result (λ right. λ behind. absurd (behind (w.if-is_current.true ∙ serial))) did.right;
            unchanged = did.unchanged;
            due = did.due;
            work = did.work;
            changes = did.changes;
            due_changes = did.due_changes;
            still = λ all alike. did.still (told.changed.1 alike);
          } in
          subst (λ (x : Inside). IsOutcome s u i.routes i.built i.rolled c.if-is_current.settled x.state x.routes x.built x.rolled) (sym w.self-inside-is) (record {
            state_is = refl;
            still_is = refl;
            rolled_is = refl;
            settled = subst (λ (r : Result (Unit {0}) Memory). IsSettled s u i.routes i.built r w.settle-settled.new.self) (sym w.settled-is) settled;
          })
      | else-is_current w ↦
          let did = w.start_anew-settled.ensures in
          let result = w.start_anew-settled.result in
          let settled : IsSettled s u i.routes i.built result w.start_anew-settled.new.self = record {
            right = did.right;
            fit = did.fit;
            bounded = on_ok_weaker result (λ right. λ all. absurd (w.if-is_current.false (all ∙ sym serial))) did.right;
            exact = on_ok_weaker result (λ right. λ all. absurd (w.if-is_current.false (all ∙ sym serial))) did.right;
            anew = on_ok_weaker result (λ built. λ behind. built) did.built;
            unnamed = on_ok_weaker result (λ right. λ behind. did.changes) did.right;
            unnamed_due = on_ok_weaker result (λ right. λ behind. did.due_changes) did.right;
            unchanged = did.unchanged;
            due = did.due;
            work = did.work;
            changes = on_err_weaker result (λ work. did.changes) did.work;
            due_changes = on_err_weaker result (λ work. did.due_changes) did.work;
            still = λ all alike. absurd (w.if-is_current.false (all ∙ sym serial));
          } in
          subst (λ (x : Inside). IsOutcome s u i.routes i.built i.rolled c.if-is_current.settled x.state x.routes x.built x.rolled) (sym w.self-inside-is) (record {
            state_is = refl;
            still_is = refl;
            rolled_is = refl;
            settled = subst (λ (r : Result (Unit {0}) Memory). IsSettled s u i.routes i.built r w.start_anew-settled.new.self) (sym w.settled-is) settled;
          })
    ]

pub invariant_of-self-in-Ok : goal.invariant_of-self-in-Ok
invariant_of-self-in-Ok c =
    let i = c.self.inside in
    let told = c.in_ok-serial.ensures in
    let now = c.if-is_current.self-inside in
    let o = outcome (goal.at.invariant_of-self-in-Ok c).Joined-is_current in
    let count = length c.journal-in-Ok.result.now in
    let all = ap length (c.journal-in-Ok.ensures.value ∙ ap (λ (v : State). v.journal) o.state_is) in
    subst (λ (v : State). IsCoherent v now.routes count × IsBaseItself now.rolled v) (sym o.state_is)
    (coherent_ok i.state c.step.new.self i.routes now.routes i.built c.args.event c.self.invariant.0 told.taken told.accepted c.if-is_current.settled count all c.in-Ok.is o.settled, subst (λ (b : Bool). IsBaseItself b c.step.new.self) (sym o.rolled_is) (base_itself_later i.state c.step.new.self i.rolled c.args.event told.taken c.self.invariant.1))

pub invariant_of-self-in-Err : goal.invariant_of-self-in-Err
invariant_of-self-in-Err c =
    let i = c.self.inside in
    let told = c.in_ok-serial.ensures in
    let now = c.if-is_current.self-inside in
    let o = outcome (goal.at.invariant_of-self-in-Err c).Joined-is_current in
    let kept = coherent_err i.state c.step.new.self i.routes now.routes i.built c.args.event c.self.invariant.0 told.taken told.accepted c.if-is_current.settled c.in-Err.field-0 c.in-Err.is o.settled in
    subst (λ (v : State). IsCoherent v now.routes now.built × IsBaseItself now.rolled v) (sym o.state_is)
    (subst (IsCoherent c.step.new.self now.routes) (sym o.still_is) kept, subst (λ (b : Bool). IsBaseItself b c.step.new.self) (sym o.rolled_is) (base_itself_later i.state c.step.new.self i.rolled c.args.event told.taken c.self.invariant.1))

pub returns-clause-applied : goal.returns-clause-applied
returns-clause-applied c =
    let i = c.self.inside in
    let u = c.step.new.self in
    let told = c.in_ok-serial.ensures in
    let serial = c.in_ok-serial.serial in
    let now = c.if-is_current.self-inside in
    let o = outcome (goal.at.returns-clause-applied c).Joined-is_current in
    let reply : Reply = record { serial = serial; changed = c.in_ok-serial.changed; state = c.match-settled.state } in
    let event = c.args.event in
    subst (λ (old : CoreValue). IsTaken old event reply c.match-settled.self) c.self.view_is
    (elim c.match-settled.branch [
      | in-Ok w ↦
          let count = length w.journal-in-Ok.result.now in
          let whole = ap length (w.journal-in-Ok.ensures.value ∙ ap (λ (v : State). v.journal) o.state_is) in
          let is = w.self-is ∙ ap (λ (v : State). core_of v now.routes count) o.state_is in
          subst (λ (new : CoreValue). IsTaken (core_of i.state i.routes i.built) event reply new) (sym is)
          (taken_ok i.state u i.routes now.routes i.built event c.self.invariant.0 told.taken told.accepted c.if-is_current.settled count reply whole w.in-Ok.is o.settled told.changed w.state-is told.serial)
      | in-Err w ↦
          let is = w.self-is ∙ (λ j. core_of (o.state_is j) now.routes (o.still_is j)) in
          subst (λ (new : CoreValue). IsTaken (core_of i.state i.routes i.built) event reply new) (sym is)
          (taken_err i.state u i.routes now.routes i.built event c.self.invariant.0 told.taken told.accepted c.if-is_current.settled w.in-Err.field-0 reply w.in-Err.is o.settled told.changed w.state-is told.serial)
    ])

pub returns-clause-work : goal.returns-clause-work
returns-clause-work c =
    let i = c.self.inside in
    let u = c.step.new.self in
    let told = c.in_ok-serial.ensures in
    let now = c.if-is_current.self-inside in
    let o = outcome (goal.at.returns-clause-work c).Joined-is_current in
    subst (λ (old : CoreValue). HasBoundedWork old c.match-settled.state c.match-settled.self) c.self.view_is
    (elim c.match-settled.branch [
      | in-Ok w ↦
          let count = length w.journal-in-Ok.result.now in
          let whole = ap length (w.journal-in-Ok.ensures.value ∙ ap (λ (v : State). v.journal) o.state_is) in
          let is = w.self-is ∙ ap (λ (v : State). core_of v now.routes count) o.state_is in
          let all = bounded_ok i.state u i.routes now.routes i.built c.args.event c.self.invariant.0 told.taken told.accepted c.if-is_current.settled count whole w.in-Ok.is o.settled in
          subst (λ (state : Status). HasBoundedWork (core_of i.state i.routes i.built) state c.match-settled.self) (sym w.state-is)
          (subst (λ (new : CoreValue). HasBoundedWork (core_of i.state i.routes i.built) Current new) (sym is) all)
      | in-Err w ↦
          let is = w.self-is ∙ (λ j. core_of (o.state_is j) now.routes (o.still_is j)) in
          let all = bounded_err i.state u i.routes now.routes i.built c.args.event c.self.invariant.0 told.taken told.accepted c.if-is_current.settled w.in-Err.field-0 w.in-Err.is o.settled in
          subst (λ (state : Status). HasBoundedWork (core_of i.state i.routes i.built) state c.match-settled.self) (sym w.state-is)
          (subst (λ (new : CoreValue). HasBoundedWork (core_of i.state i.routes i.built) Behind new) (sym is) all)
    ])

pub returns-clause-changes : goal.returns-clause-changes
returns-clause-changes c =
    let i = c.self.inside in
    let u = c.step.new.self in
    let told = c.in_ok-serial.ensures in
    let now = c.if-is_current.self-inside in
    let o = outcome (goal.at.returns-clause-changes c).Joined-is_current in
    subst (λ (old : CoreValue). NamesChanges old c.match-settled.state c.match-settled.self) c.self.view_is
    (elim c.match-settled.branch [
      | in-Ok w ↦
          let count = length w.journal-in-Ok.result.now in
          let whole = ap length (w.journal-in-Ok.ensures.value ∙ ap (λ (v : State). v.journal) o.state_is) in
          let is = w.self-is ∙ ap (λ (v : State). core_of v now.routes count) o.state_is in
          let all = named_ok i.state u i.routes now.routes i.built c.args.event c.self.invariant.0 told.taken told.accepted c.if-is_current.settled count w.in-Ok.is o.settled in
          subst (λ (state : Status). NamesChanges (core_of i.state i.routes i.built) state c.match-settled.self) (sym w.state-is)
          (subst (λ (new : CoreValue). NamesChanges (core_of i.state i.routes i.built) Current new) (sym is) all)
      | in-Err w ↦
          let is = w.self-is ∙ (λ j. core_of (o.state_is j) now.routes (o.still_is j)) in
          let all = named_err i.state u i.routes now.routes i.built c.args.event c.self.invariant.0 told.taken told.accepted c.if-is_current.settled w.in-Err.field-0 w.in-Err.is o.settled in
          subst (λ (state : Status). NamesChanges (core_of i.state i.routes i.built) state c.match-settled.self) (sym w.state-is)
          (subst (λ (new : CoreValue). NamesChanges (core_of i.state i.routes i.built) Behind new) (sym is) all)
    ])

pub returns-clause-quiet : goal.returns-clause-quiet
returns-clause-quiet c = λ quiet.
    let i = c.self.inside in
    let u = c.step.new.self in
    let told = c.in_ok-serial.ensures in
    let now = c.if-is_current.self-inside in
    let o = outcome (goal.at.returns-clause-quiet c).Joined-is_current in
    let reply : Reply = record { serial = c.in_ok-serial.serial; changed = c.in_ok-serial.changed; state = c.match-settled.state } in
    let fit = c.journal.ensures.fit (sound_apart i.state.config (sound_now i.state i.routes i.built c.self.invariant.0)) in
    let here : IsQuietSecond (core_of i.state i.routes i.built) c.args.event = subst (λ (old : CoreValue). IsQuietSecond old c.args.event) (sym c.self.view_is) quiet in
    elim c.match-settled.branch [
      | in-Ok w ↦
          let is = w.self-is ∙ ap (λ (v : State). core_of v now.routes (length w.journal-in-Ok.result.now)) o.state_is in
          subst (λ (new : CoreValue). DoesNothing reply new) (sym is)
          (quiet_ok i.state u i.routes now.routes i.built c.args.event c.self.invariant.0 fit told.taken c.if-is_current.settled o.settled reply told.changed here (length w.journal-in-Ok.result.now) w.state-is)
      | in-Err w ↦
          let is = w.self-is ∙ (λ j. core_of (o.state_is j) now.routes (o.still_is j)) in
          subst (λ (new : CoreValue). DoesNothing reply new) (sym is)
          (quiet_err i.state u i.routes now.routes i.built c.args.event c.self.invariant.0 fit told.taken c.if-is_current.settled o.settled reply told.changed here w.in-Err.field-0 w.in-Err.is i.built)
    ]
