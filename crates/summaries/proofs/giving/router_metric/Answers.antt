-- Outside stub areas the preferred route decides.
use Rattle.std.proofs.Common.{sym, ◌∙◌}
use Rattle.summaries.proofs.giving.router_metric.Goals as goal

pub returns-in-None : goal.returns-in-None
returns-in-None c m = (λ is. (c.in-None.is, sym c.metric_into.ensures ∙ is), λ w. c.metric_into.ensures ∙ w.1)
