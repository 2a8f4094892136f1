use Rattle.std.proofs.Common.{◌≡◌, MatchResult, subst, ◌∙◌}
use Rattle.std.specs.Prelude.{◌↔◌}
use Rattle.event_state.specs.declared.refusal.Refusal.TheVariants.{NoArea}
use Rattle.publication.specs.Names.{Name}
use Rattle.engine.specs.Answers.{HasArea}
use Rattle.engine.proofs.engine.Engine.due.Goals as goal

pub returns-clause-area : goal.returns-clause-area
returns-clause-area g c =
    subst (λ (n : Name). MatchResult c.due-due.result (λ _. HasArea n.base.config c.args.area) (λ e. (e ≡ NoArea) ↔ (¬ HasArea n.base.config c.args.area)))
    (c.take-engine_state.ensures ∙ c.self.view_is) c.due-due.ensures.area
