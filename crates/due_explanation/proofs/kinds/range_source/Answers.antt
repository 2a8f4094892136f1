-- The greatest cost of the ranges that are kept.
use Rattle.std.proofs.Common.{refl, subst}
use Rattle.ospf_types.specs.Inter.{LSInfinity}
use Rattle.active_ranges.specs.Active.{HasCost}
use Rattle.active_ranges.specs.Lists.{IsGreatestBelow}
use Rattle.summaries.specs.Inputs.{SummaryInputsValue}
use Rattle.due_explanation.proofs.kinds.range_source.Goals as goal

pub returns : goal.returns
returns c =
    let a = c.args.area.now in
    let cost = subst (λ (v : SummaryInputsValue). IsGreatestBelow LSInfinity (HasCost v.ranges c.args.prefix a.id) c.costliest-cost.result) c.inputs.view_is c.costliest-cost.ensures in
    (c.if-not-has_range.ensures.0 refl, refl, refl, cost, c.range_fate.ensures)
