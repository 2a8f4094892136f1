-- By the routes that are kept.
use Rattle.std.proofs.Common.{◌≡◌, ℕ, Option, Some, ap, subst, ◌∙◌}
use Rattle.std.specs.Prelude.{◌↔◌}
use Rattle.std.specs.FinMap.{get}
use Rattle.external.specs.AsbrRoute.{PreferredValue}
use Rattle.summaries.specs.Candidates.{metric_into}
use Rattle.summaries.specs.Giving.{PreferredGives}
use Rattle.summaries.specs.Inputs.{SummaryInputsValue}
use Rattle.summaries.proofs.giving.find_candidate.Goals as goal

pub returns-in-Net-clause-right : goal.returns-in-Net-clause-right
returns-in-Net-clause-right c two = c.network_given.ensures

pub returns-in-Router-clause-right : goal.returns-in-Router-clause-right
returns-in-Router-clause-right c two =
    let kept = c.preferred.ensures ∙ ap (λ (w : SummaryInputsValue). get w.external.preferred c.in-Router.router) c.inputs.view_is in
    subst (λ (o : Option PreferredValue). (area m : ℕ) → (metric_into c.router_given.result area ≡ Some m) ↔ PreferredGives o area m) kept c.router_given.ensures
