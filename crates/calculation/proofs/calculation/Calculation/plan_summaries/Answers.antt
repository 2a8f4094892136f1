use Rattle.std.proofs.Common.{List, sym, subst}
use Rattle.ospf_types.specs.declared.key.Dest.{Dest}
use Rattle.summaries.specs.Changes.{InputsDifferAmong}
use Rattle.summaries.specs.DueSummaries.{AreSummariesOf}
use Rattle.summaries.specs.Inputs.{SummaryInputsValue}
use Rattle.route_layers.specs.Layers.{AreActive}
use Rattle.calculation.proofs.Summaries.{due_before}
use Rattle.calculation.proofs.calculation.Calculation.plan_summaries.Goals as goal

pub plan-requires : goal.plan-requires
plan-requires c =
    let b = c.requires.before in
    let dests : List Dest = c.args.dests.now in
    let v = due_before b.0 c.args.state.now dests b.1 c.args.self.now c.args.summaries.now c.deref.result.now b.2 b.3 in
    record { before = (v.0, v.1, subst (InputsDifferAmong dests v.0) (sym c.summary_inputs.ensures) v.2) }

pub returns-clause-kept : goal.returns-clause-kept
returns-clause-kept c after carried =
    let s = c.args.state.now in
    let due = subst (λ (v : SummaryInputsValue). AreSummariesOf v after) c.summary_inputs.ensures (c.in_ok-plan.ensures.kept after carried) in
    (c.deref.result.now, subst (AreActive s) (sym c.deref.ensures) c.in_ok-active.ensures, due)
