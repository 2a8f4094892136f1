use Rattle.std.proofs.Common.{ap, length}
use Rattle.event_state.proofs.Configs.{sound_apart}
use Rattle.event_core.proofs.Runs.{kept_current, stands_current, sound_now}
use Rattle.event_core.proofs.core_state.Core.catch_up.Goals as goal

pub rebuild-requires-clause-apart : goal.rebuild-requires-clause-apart
rebuild-requires-clause-apart c = sound_apart c.self.inside.state.config (sound_now c.self.inside.state c.self.inside.routes c.self.inside.built c.self.invariant.0)

pub invariant_of-self : goal.invariant_of-self
invariant_of-self c =
    let i = c.self.inside in
    (kept_current i.state i.routes c.rebuild.new.self i.built (length c.journal.result.now) c.self.invariant.0 (ap length c.journal.ensures.value) c.in-Ok.ensures.right, c.self.invariant.1)

pub returns-in-Ok-clause-stands : goal.returns-in-Ok-clause-stands
returns-in-Ok-clause-stands c =
    let i = c.self.inside in
    let all = ap length c.journal.ensures.value in
    let kept = kept_current i.state i.routes c.rebuild.new.self i.built (length c.journal.result.now) c.self.invariant.0 all c.in-Ok.ensures.right in
    stands_current i.state c.rebuild.new.self (length c.journal.result.now) c.args.self.now kept all
