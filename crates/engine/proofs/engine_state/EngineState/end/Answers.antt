use Rattle.std.proofs.Common.{sym, ap, subst}
use Rattle.event_state.specs.Rolls.{IsRolled}
use Rattle.event_state.specs.Steps.{standard_limits}
use Rattle.engine.specs.EngineStates.{Held}
use Rattle.engine.proofs.engine_state.EngineState.end.Goals as goal

pub returns-clause-list : goal.returns-clause-list
returns-clause-list g c =
    let kept = c.self.invariant.1 in
    let rolled = c.self.inside.parts.rolled.list in (
      rolled,
      subst (λ (h : Held). IsRolled h.name.base standard_limits rolled c.self.inside.parts.core.base) c.self.view_is kept.base,
      sym (ap (λ (h : Held). h.list) c.self.view_is),
    )
