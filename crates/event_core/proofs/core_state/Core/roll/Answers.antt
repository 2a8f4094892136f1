use Rattle.std.proofs.Common.{length, ap, subst, ◌∙◌}
use Rattle.event_state.proofs.Configs.{sound_apart}
use Rattle.event_core.specs.Cores.{CoreValue, Rolls}
use Rattle.event_core.specs.Kept.{core_of}
use Rattle.event_core.proofs.Quiet.{base_itself_rolled}
use Rattle.event_core.proofs.Runs.{kept_roll, rolls, sound_now}
use Rattle.event_core.proofs.core_state.Core.roll.Goals as goal

pub invariant_of-self : goal.invariant_of-self
invariant_of-self c =
    let i = c.self.inside in
    let sound = sound_now i.state i.routes i.built c.self.invariant.0 in
    let apart = sound_apart i.state.config sound in (
      kept_roll i.state c.set_base.new.self i.routes i.built c.in-Ok.base c.self.invariant.0 (c.if-self-journal.false ∙ ap length c.journal.ensures.value) (c.journal.ensures.fit apart) c.in-Ok.ensures
          (c.base.ensures.sound sound c.in-Ok.base c.in-Ok.ensures) c.set_base.ensures.since (c.set_base.ensures.again apart),
      λ from_roll. base_itself_rolled i.state c.set_base.new.self c.in-Ok.base c.in-Ok.ensures c.set_base.ensures.since (c.set_base.ensures.again apart),
    )

pub returns-clause-rolled : goal.returns-clause-rolled
returns-clause-rolled c =
    let i = c.self.inside in
    let apart = sound_apart i.state.config (sound_now i.state i.routes i.built c.self.invariant.0) in
    subst (λ (old : CoreValue). Rolls old (core_of c.set_base.new.self i.routes 0)) c.self.view_is
    (rolls i.state c.set_base.new.self i.routes i.built c.in-Ok.base c.self.invariant.0 c.in-Ok.ensures c.set_base.ensures.since (c.set_base.ensures.again apart))
