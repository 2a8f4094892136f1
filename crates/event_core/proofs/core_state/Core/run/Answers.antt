use Rattle.std.proofs.Common.{◌≡◌, List, [], ◌∷◌, ◌++◌, length, ap, subst, sym, refl, ◌∙◌, append_assoc, arith}
use Rattle.std.specs.Prelude.{Result}
use Rattle.std.proofs.lemmas.List.{append-nil, nil_from_length}
use Rattle.std.specs.Vec.Iter.{into_iter_items}
use Rattle.event_state.specs.declared.event.Event.{Event}
use Rattle.event_core.specs.declared.reply.Reply.{Reply}
use Rattle.event_state.specs.declared.refusal.Refusal.{Refusal}
use Rattle.event_core.specs.Cores.{Runs}
use Rattle.event_core.proofs.Runs.{tells}
use Rattle.event_core.proofs.core_state.Core.run.Goals as goal

pub loop-event-preserved : goal.loop-event-preserved
loop-event-preserved c =
    let turn = c.loop-event in
    let steps = c.in-Some.ensures.steps.0 in
    let answer = c.apply.result in
    let pushed = c.in-Ok.ensures in
    let told = tells turn.self c.in-Some.event answer c.apply.new.self c.apply.ensures.applied c.apply.ensures.changes c.apply.ensures.work in
    record {
      rest = λ replies new h.
          let whole : Runs turn.self (into_iter_items turn.event-iterator) (answer ∷ replies) new = subst (λ (events : List Event). Runs turn.self events (answer ∷ replies) new) (sym steps) (c.apply.new.self, c.apply.ensures.applied, told, h) in
          subst (λ (rs : List (Result Reply Refusal)). Runs c.args.self.now c.args.events.items rs new)
          (sym (ap (λ (rs : List (Result Reply Refusal)). rs ++ replies) pushed.items ∙ append_assoc turn.replies.items (answer ∷ []) replies)) (turn.invariant.rest (answer ∷ replies) new whole);
      room = omega (arith, pushed.capacity);
      few = omega (arith, pushed.len, ap length steps);
    }

pub returns-clause-runs : goal.returns-clause-runs
returns-clause-runs c =
    let turn = c.loop-event in
    let done : into_iter_items turn.event-iterator ≡ [] = nil_from_length (into_iter_items turn.event-iterator) (sym turn.event-iterator.rest.ok.0 ∙ c.in-None.ensures.steps.0) in
    let whole : Runs turn.self (into_iter_items turn.event-iterator) [] turn.self = subst (λ (events : List Event). Runs turn.self events [] turn.self) (sym done) refl in
    subst (λ (rs : List (Result Reply Refusal)). Runs c.args.self.now c.args.events.items rs turn.self) (append-nil turn.replies.items) (turn.invariant.rest [] turn.self whole)
