use Rattle.std.proofs.Common.{sym, subst}
use Rattle.std.proofs.lemmas.Result.{IfOk-weaker}
use Rattle.summaries.specs.DueSummaries.{AreSummariesOf}
use Rattle.summaries.specs.Inputs.{SummaryInputsValue}
use Rattle.route_layers.specs.Layers.{AreActive}
use Rattle.calculation.proofs.calculation.Calculation.summaries.Goals as goal

-- what is calculated from has the active areas
pub returns : goal.returns
returns c =
    let active = subst (AreActive c.args.state.now) (sym c.deref.ensures) c.in_ok-active.ensures in
    IfOk-weaker c.build.result _ _ (λ summaries kept. (c.deref.result.now, active, subst (λ (v : SummaryInputsValue). AreSummariesOf v summaries) c.summary_inputs.ensures kept)) c.build.ensures.kept
