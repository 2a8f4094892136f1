use Rattle.std.proofs.Common.{subst, ◌∙◌}
use Rattle.event_state.specs.Rolls.{IsRolled}
use Rattle.event_state.specs.Steps.{standard_limits}
use Rattle.publication.specs.Names.{Name}
use Rattle.engine.proofs.engine.Engine.close.Goals as goal

pub returns-clause-rolled : goal.returns-clause-rolled
returns-clause-rolled g c =
    let list = c.end.ensures.list in
    (list.0, subst (λ (n : Name). IsRolled n.base standard_limits list.0 c.end.result.base) (c.take-engine_state.ensures ∙ c.self.view_is) list.1)
