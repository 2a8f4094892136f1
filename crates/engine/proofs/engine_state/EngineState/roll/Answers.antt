use Rattle.std.proofs.Common.{◌≡◌, ◌+◌, Bool, false, drop, length, ap, refl, sym, subst, arith, ◌∙◌, length-append}
use Rattle.engine.specs.EngineStates.{Held, IsFresh, list_of}
use Rattle.engine.proofs.Replying.{serial_now}
use Rattle.engine.proofs.Rolling.{roll_refusal, rolled_fresh, rolled_kept}
use Rattle.engine.proofs.engine_state.EngineState.roll.Goals as goal

pub invariant_of-result : goal.invariant_of-result
invariant_of-result c =
    let i = c.self.inside.parts in
    let shown = i.writer.desk.shown.value in
    let pending = drop i.writer.behind i.writer.log.items in
    let now = c.roll.new.self in
    let next = c.front.result in
    let fresh = subst (λ (b : Bool). IsFresh b i.core i.history i.rolled shown pending) c.if-self.false c.self.invariant.2 in
    let rolls = c.in-Ok.ensures.rolled in (
      c.base.ensures.kept,
      rolled_kept i.core now i.history i.rolled next shown _ c.self.invariant.0 rolls c.front.ensures fresh.1 fresh.2 c.self.invariant.1,
      subst (λ (b : Bool). IsFresh b now i.history next shown pending) (sym c.if-self.false) (rolled_fresh i.core now i.history i.rolled next shown pending rolls c.front.ensures fresh),
    )

pub returns-in-Ok-clause-serial : goal.returns-in-Ok-clause-serial
returns-in-Ok-clause-serial c =
    let i = c.self.inside.parts in
    let kept = c.self.invariant.1 in
    serial_now i.writer.desk.shown.value.base i.rolled.list i.core kept.base kept.limits i.core c.in-Ok.serial refl c.in-Ok.ensures.serial
    ∙ ap (λ (h : Held). h.name.base.serial + length h.list) c.self.view_is

pub returns-in-Err-clause-refused : goal.returns-in-Err-clause-refused
returns-in-Err-clause-refused c =
    let i = c.self.inside.parts in
    let shown = i.writer.desk.shown.value in
    let kept = c.self.invariant.1 in
    let fresh = subst (λ (b : Bool). IsFresh b i.core i.history i.rolled shown (drop i.writer.behind i.writer.log.items)) c.if-self.false c.self.invariant.2 in
    let built : i.core.built ≡ length i.core.journal = omega (arith, kept.published.built, c.self.invariant.0.within, ap length fresh.1, length-append i.rolled.list i.core.journal) in
    roll_refusal i.core i.rolled shown c.args.self c.in-Err.refusal built fresh.1 (sym (ap (λ (h : Held). h.published) c.self.view_is)) (sym (ap (λ (h : Held). h.list) c.self.view_is)) c.in-Err.ensures.refused
