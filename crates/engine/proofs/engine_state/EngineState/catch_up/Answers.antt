use Rattle.std.proofs.Common.{◌≡◌, ◌+◌, length, ap, refl, ◌∙◌}
use Rattle.engine.specs.EngineStates.{Held}
use Rattle.engine.proofs.Replying.{tells_whole, none_whole, serial_now}
use Rattle.engine.proofs.engine_state.EngineState.catch_up.Goals as goal

pub returns-clause-told : goal.returns-clause-told
returns-clause-told g c =
    let kept = c.engine_state.invariant.1 in
    let i = c.engine_state.inside.parts in
    let p = c.follow_up-engine_state.ensures in
    let count =
    serial_now i.writer.desk.shown.value.base i.rolled.list i.core kept.base kept.limits i.core c.serial.result refl c.serial.ensures.state
    ∙ ap (λ (h : Held). h.name.base.serial + length h.list) c.engine_state.view_is in
    tells_whole _ _ _ c.told-told.result c.args.self.name c.args.self.list p.same.0 p.same.1
    (count ∙ (λ i. (p.same.0 i).base.serial + length (p.same.1 i))) c.told-told.ensures.some

pub returns-clause-none : goal.returns-clause-none
returns-clause-none g c =
    let kept = c.engine_state.invariant.1 in
    let i = c.engine_state.inside.parts in
    let count =
    serial_now i.writer.desk.shown.value.base i.rolled.list i.core kept.base kept.limits i.core c.serial.result refl c.serial.ensures.state
    ∙ ap (λ (h : Held). h.name.base.serial + length h.list) c.engine_state.view_is in
    none_whole _ _ c.told-told.result _ _ count c.told-told.ensures.none
