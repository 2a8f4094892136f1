-- The inputs are lent by the calculation.
use Rattle.std.proofs.Common.{◌≡◌, ℕ, List, sym, ap, subst, ◌∙◌}
use Rattle.std.proofs.lemmas.Result.{IfOk-weaker}
use Rattle.ospf_types.specs.declared.config.Config.{Config}
use Rattle.summaries.specs.Inputs.{SummaryInputsValue}
use Rattle.route_layers.specs.Layers.{AreActive}
use Rattle.calculation.specs.Summaries.{summary_inputs}
use Rattle.due_explanation.specs.Reasons.{IsExplained}
use Rattle.due_explanation.proofs.explained.explain_by.Goals as goal

pub returns : goal.returns
returns c =
    let s = c.args.found.state.now in
    let calculation = c.args.found.calculation.now in
    let active = c.as_slice-2.result.now in
    let areas : c.as_slice.result.now ≡ s.config.areas = c.as_slice.ensures ∙ ap (λ (k : Config). k.areas) c.config.ensures.value in
    let lent : SummaryInputsValue = record {
      areas = c.as_slice.result.now;
      active = active;
      intra = c.intra.result.now;
      ranges = c.active-2.result.now;
      inter = c.inter.result.now;
      external = c.external.result.now;
    } in
    let same : lent ≡ summary_inputs s active calculation = λ i. record {
      areas = areas i;
      active = active;
      intra = c.intra.ensures i;
      ranges = c.active-2.ensures i;
      inter = c.inter.ensures i;
      external = c.external.ensures i;
    } in
    IfOk-weaker c.due_reason.result _ _ (λ x why. record {
      calculation = calculation;
      right = c.requires;
      active = active;
      active_is = subst (λ (list : List ℕ). AreActive s list) (sym c.as_slice-2.ensures) c.in_ok-active.ensures;
      why = subst (λ (v : SummaryInputsValue). IsExplained v c.args.area c.args.dest x) same why;
    }) c.due_reason.ensures
