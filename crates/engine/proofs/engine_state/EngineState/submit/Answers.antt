use Rattle.std.proofs.Common.{◌≡◌, ◌+◌, ◌++◌, Bool, drop, length, IfSome, ap, ◌∙◌, subst, arith, [], ◌∷◌, refl, sym, append_assoc, length-append}
use mathlib.Core.List.{IsPrefix}
use Rattle.left_right.specs.Sides.{view as known_to}
use Rattle.event_core.specs.Cores.{CoreValue, IsCore, MatchesStatus, NamesChanges}
use Rattle.event_core.specs.declared.reply.Status.{Status}
use Rattle.event_core.specs.declared.reply.Status.TheVariants.{Current}
use Rattle.publication.specs.Names.{Name}
use Rattle.publication.specs.Published.{name_of}
use Rattle.publication.proofs.Prefixes.{prefix_length, prefix_self}
use Rattle.engine.specs.Answers.{IsAnswerTo, Refusals}
use Rattle.engine.specs.EngineStates.{Held, IsFresh, IsEngineKept, IsTokenFor, list_of}
use Rattle.engine.proofs.Following.{follows}
use Rattle.engine.proofs.Keeping.{core_kept}
use Rattle.engine.proofs.Runs.{legal_core, refused_whole}
use Rattle.engine.proofs.Replying.{answers, replied, serial_now, tells_beside, told_whole}
use Rattle.engine.proofs.engine_state.EngineState.submit.Goals as goal

pub returns-in-Ok-clause-answer : goal.returns-in-Ok-clause-answer
returns-in-Ok-clause-answer g c =
    let core = c.self.inside.parts.core in
    let shown = c.self.inside.parts.writer.desk.shown.value in
    let rolled = c.self.inside.parts.rolled.list in
    let name : Name = name_of shown in
    let event = c.args.event in
    let taken = c.in-Ok.ensures.applied in
    let p = c.publish-engine_state.ensures in
    let kept = c.self.invariant.1 in
    let same = c.answer.ensures.same in
    let replies = replied shown.base rolled core kept.base kept.limits c.apply.new.self event c.in-Ok.reply c.answer.result.reply c.self.invariant.0 taken same.0 same.1 in
    subst (λ (n : Name). IsAnswerTo n event c.answer.result) (ap (λ (h : Held). h.name) c.self.view_is)
    (answers name (rolled ++ core.journal) event c.answer.result c.told-told.result c.publish-engine_state.result c.in-Ok.reply.serial same.0 replies same.2 c.answer.ensures.state
    p.same.0 (p.same.1 ∙ ap (λ j. rolled ++ j) taken.joins ∙ sym (append_assoc rolled core.journal (event ∷ []))) c.told-told.ensures.some)

pub returns-in-Ok-clause-journal : goal.returns-in-Ok-clause-journal
returns-in-Ok-clause-journal g c =
    let core = c.self.inside.parts.core in
    let rolled = c.self.inside.parts.rolled.list in
    c.publish-engine_state.ensures.same.1 ∙ ap (λ j. rolled ++ j) c.in-Ok.ensures.applied.joins ∙ sym (append_assoc rolled core.journal (c.args.event ∷ [])) ∙ ap (λ (h : Held). h.list ++ c.args.event ∷ []) c.self.view_is

pub returns-in-Err-clause-answer : goal.returns-in-Err-clause-answer
returns-in-Err-clause-answer g c =
    let core = c.self.inside.parts.core in
    let refused = c.in-Err.ensures.applied in
    let same = refused.unchanged in
    let kept = c.self.invariant.1 in
    let shown = c.self.inside.parts.writer.desk.shown.value in
    let rolled = c.self.inside.parts.rolled in
    let list = list_of rolled core in
    let told = c.told-told-in-Err in
    subst (λ (n : Name). Refusals n c.args.event (record { refusal = c.in-Err.refusal; told = told.result })) (ap (λ (h : Held). h.name) c.self.view_is) (
      list,
      legal_core shown.base rolled.list core kept.base kept.limits c.self.invariant.0,
      refused_whole shown.base rolled.list core kept.base kept.limits c.args.event c.in-Err.refusal refused.first,
      tells_beside (name_of shown) list _ told.result shown.front.list list
          (prefix_self list)
          (serial_now shown.base rolled.list core kept.base kept.limits c.apply.new.self c.serial.result same c.serial.ensures.state)
          (prefix_length shown.front.list list kept.published.begins)
          told.ensures.none
          (subst (λ (v : CoreValue). IfSome told.result (IsTokenFor (name_of shown) (list_of rolled v) c.serial.result)) same told.ensures.some),
    )

pub returns-in-Err-clause-told : goal.returns-in-Err-clause-told
returns-in-Err-clause-told g c =
    let core = c.self.inside.parts.core in
    let told = c.told-told-in-Err in
    let same = c.in-Err.ensures.applied.unchanged in
    let kept = c.self.invariant.1 in
    let shown = c.self.inside.parts.writer.desk.shown.value in
    let rolled = c.self.inside.parts.rolled in
    let count = serial_now shown.base rolled.list core kept.base kept.limits c.apply.new.self c.serial.result same c.serial.ensures.state in
    told_whole _ told.result (name_of shown) (list_of rolled c.apply.new.self) shown.front.list
    (count ∙ ap (λ (v : CoreValue). shown.base.serial + length (list_of rolled v)) (sym same)) told.ensures.none told.ensures.some told.ensures.published

pub returns-in-Ok-clause-grows : goal.returns-in-Ok-clause-grows
returns-in-Ok-clause-grows g c = subst (λ (h : Held). IsPrefix h.published c.publish-engine_state.result.published) c.self.view_is c.publish-engine_state.ensures.grows

pub returns-in-Err-clause-grows : goal.returns-in-Err-clause-grows
returns-in-Err-clause-grows g c =
    let shown = c.self.inside.parts.writer.desk.shown.value.front.list in
    subst (λ (h : Held). IsPrefix h.published shown) c.self.view_is (prefix_self shown)

pub publish-engine_state-requires-clause-behind : goal.publish-engine_state-requires-clause-behind
publish-engine_state-requires-clause-behind g c =
    let core = c.self.inside.parts.core in
    let rolled = c.self.inside.parts.rolled in
    let shown = c.self.inside.parts.writer.desk.shown.value in
    omega (
      arith,
      prefix_length shown.front.list (list_of rolled core) c.self.invariant.1.published.begins,
      length-append rolled.list core.journal,
      length-append rolled.list c.apply.new.self.journal,
      ap length c.in-Ok.ensures.applied.joins,
      length-append core.journal (c.args.event ∷ []),
    )

pub publish-engine_state-requires-clause-follows : goal.publish-engine_state-requires-clause-follows
publish-engine_state-requires-clause-follows g c fresh_before current =
    let core = c.self.inside.parts.core in
    let now = c.apply.new.self in
    let rolled = c.self.inside.parts.rolled in
    let shown = c.self.inside.parts.writer.desk.shown.value in
    let kept = c.self.invariant.1 in
    let fresh = subst (λ (b : Bool). IsFresh b core c.self.inside.parts.history rolled shown (drop c.self.inside.parts.writer.behind c.self.inside.parts.writer.log.items)) fresh_before c.self.invariant.2 in
    let built : core.built ≡ length core.journal = omega (arith, kept.published.built, c.self.invariant.0.within, ap length fresh.1, length-append rolled.list core.journal) in
    let stands : MatchesStatus core Current now = subst (λ (s : Status). MatchesStatus core s now) current c.in-Ok.ensures.applied.stands in
    let named : NamesChanges core Current now = subst (λ (s : Status). NamesChanges core s now) current c.in-Ok.ensures.changes in (
      fresh.0,
      stands.0,
      follows rolled.list core now shown c.self.invariant.0 kept.limits kept.right kept.base fresh.1 built (named.0 built).networks,
    )

pub publish-engine_state-requires-clause-kept : goal.publish-engine_state-requires-clause-kept
publish-engine_state-requires-clause-kept g c =
    let taken = c.in-Ok.ensures.applied in
    core_kept c.self.inside.parts.core c.apply.new.self c.in-Ok.reply.state _ c.self.inside.parts.rolled _ _ taken.base taken.limits (c.args.event ∷ [], sym taken.joins) taken.stands c.self.invariant.1

pub invariant_of-engine_state : goal.invariant_of-engine_state
invariant_of-engine_state g c =
    let i = c.self.inside.parts in
    subst (λ (v : CoreValue). IsCore v × IsEngineKept v i.history i.rolled i.writer.desk.shown.value (known_to i.writer.desk.place) × IsFresh c.self.inside.stale v i.history i.rolled i.writer.desk.shown.value (drop i.writer.behind i.writer.log.items))
    (sym c.in-Err.ensures.applied.unchanged) c.self.invariant

pub invariant_of-engine_state-in-Err : goal.invariant_of-engine_state-in-Err
invariant_of-engine_state-in-Err g c =
    let i = c.self.inside.parts in
    subst (λ (v : CoreValue). IsCore v × IsEngineKept v i.history i.rolled i.writer.desk.shown.value (known_to i.writer.desk.place) × IsFresh c.self.inside.stale v i.history i.rolled i.writer.desk.shown.value (drop i.writer.behind i.writer.log.items))
    (sym c.in-Err.ensures.applied.unchanged) c.self.invariant
