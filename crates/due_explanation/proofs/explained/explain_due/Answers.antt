-- It is the metric by the definitions.
use Rattle.std.proofs.Common.{subst}
use Rattle.event_state.specs.States.{State}
use Rattle.event_core.specs.Cores.{state_of}
use Rattle.due_explanation.specs.Explained.{IsDueExplained}
use Rattle.due_explanation.proofs.Metrics.{metric_is}
use Rattle.due_explanation.proofs.explained.explain_due.Goals as goal

pub returns-in_ok-explained-in-Some-clause-metric : goal.returns-in_ok-explained-in-Some-clause-metric
returns-in_ok-explained-in-Some-clause-metric c =
    let x = c.in_ok-explained-in-Some.explained in
    metric_is (state_of c.args.core.now) c.args.area c.args.dest x (subst (λ (s : State). IsDueExplained s c.args.area c.args.dest x) c.in-Some.ensures.state c.in_ok-explained-in-Some.ensures)
