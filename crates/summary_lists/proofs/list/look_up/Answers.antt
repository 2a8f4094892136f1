-- The list is itself with the metric that is found.
use Rattle.std.proofs.Common.{◌≡◌, List, Some, None, get_or, sym, subst}
use Rattle.summary_lists.specs.declared.due.DueSummary.{DueSummary}
use Rattle.summary_lists.specs.Lists.{IsMetricIn}
use Rattle.summary_lists.specs.Places.{with_metric}
use Rattle.summary_lists.proofs.Parts.{metric_here}
use Rattle.summary_lists.proofs.Placing.{found_with, absent_with}
use Rattle.summary_lists.proofs.list.look_up.Goals as goal

pub returns-in-Ok-clause-metric : goal.returns-in-Ok-clause-metric
returns-in-Ok-clause-metric c =
    let d = c.args.dest.now in
    let list = c.args.list.now in
    let x = get_or list c.in-Ok.at c.index-list-at.result in
    let whole : list ≡ with_metric d (Some x.metric) list = found_with list d c.in-Ok.at c.in-Ok.ensures.found c.requires.of_kind c.index-list-at.result in
    subst (λ (xs : List DueSummary). IsMetricIn xs d (Some x.metric)) (sym whole) (metric_here d (Some x.metric) list)

pub returns-in-Err-clause-metric : goal.returns-in-Err-clause-metric
returns-in-Err-clause-metric c =
    let d = c.args.dest.now in
    let list = c.args.list.now in
    subst (λ (xs : List DueSummary). IsMetricIn xs d None) (sym (absent_with list d c.in-Err.at c.in-Err.ensures.absent)) (metric_here d None list)
