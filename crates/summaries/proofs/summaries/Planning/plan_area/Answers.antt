use Rattle.std.proofs.Common.{◌≡◌, List, ap, subst, sym}
use Rattle.summary_lists.specs.declared.due.DueSummary.{DueSummary}
use Rattle.summary_lists.specs.Lists.{Metrics}
use Rattle.summaries.specs.Candidates.{dests_in}
use Rattle.summaries.specs.Changes.{AreChangesIn}
use Rattle.summaries.proofs.summaries.Planning.plan_area.Goals as goal

pub of-requires : goal.of-requires
of-requires c = c.in_ok-metrics.ensures.in_order

pub returns-clause-planned : goal.returns-clause-planned
returns-clause-planned c =
    let of = c.in_ok-plan.ensures in
    let v = c.args.self.inputs.now in
    let dests = dests_in c.args.self.candidates.now in
    let planned = c.in_ok-plan.plan.metrics.items in
    let made : c.in_ok-metrics.metrics.items ≡ planned = ap (λ ms. ms.items) (sym of.metrics) in
    let changes = subst (λ (ms : Metrics). AreChangesIn v c.args.area.now c.as_slice.result.now dests ms) made c.in_ok-metrics.ensures in
    record {
      of_area = of.of_area;
      changes = subst (λ (list : List DueSummary). AreChangesIn v c.args.area.now list dests planned) c.as_slice.ensures.value changes;
      same_area = of.area;
      same_list = of.list;
      fits = of.fits;
    }
