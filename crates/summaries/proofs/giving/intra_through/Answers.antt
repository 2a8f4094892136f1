-- The area that the entry leads through, by the routes that are kept, and whether a range there has
-- the network.
use Rattle.std.proofs.Common.{◌≡◌, Option, Some, sym, ap, subst, ◌∙◌, true, false}
use Rattle.std.specs.Prelude.{◌↔◌}
use Rattle.std.specs.FinMap.{get}
use Rattle.ospf_types.specs.declared.entry.Entry.{Entry}
use Rattle.summaries.specs.declared.giving.Through.{Through}
use Rattle.summaries.specs.Inputs.{SummaryInputsValue}
use Rattle.summaries.specs.Giving.{IsOutsideRanges}
use Rattle.summaries.specs.Candidates.{LeadsThrough}
use Rattle.summaries.proofs.Throughs.{leads_nowhere, leads_outside, leads_inside}
use Rattle.summaries.proofs.giving.intra_through.Goals as goal

pub returns-in_err-through : goal.returns-in_err-through
returns-in_err-through c =
    let v = c.args.inputs.now in
    let p = c.args.network in
    let kept = c.get.ensures.value ∙ ap (λ (w : SummaryInputsValue). get w.intra.entries p) c.inputs.view_is in
    let leads = subst (λ (o : Option Entry). (t : Through) → (c.finite.result ≡ Some t) ↔ LeadsThrough o t) kept c.finite.ensures in
    leads_nowhere v p c.finite.result leads c.from_residual.result c.from_residual.ensures c.in_err-through.was

pub returns-then-is_outside : goal.returns-then-is_outside
returns-then-is_outside c =
    let v = c.args.inputs.now in
    let p = c.args.network in
    let through = c.in_ok-through.through in
    let kept = c.get.ensures.value ∙ ap (λ (w : SummaryInputsValue). get w.intra.entries p) c.inputs.view_is in
    let leads = subst (λ (o : Option Entry). (t : Through) → (c.finite.result ≡ Some t) ↔ LeadsThrough o t) kept c.finite.ensures in
    let outside = subst (λ (w : SummaryInputsValue). IsOutsideRanges w.areas through.area p) c.inputs.view_is (c.is_outside.ensures.0 c.if-is_outside.true) in
    leads_outside v p c.finite.result leads through c.in_ok-through.was outside

pub returns : goal.returns
returns c =
    let v = c.args.inputs.now in
    let p = c.args.network in
    let through = c.in_ok-through.through in
    let kept = c.get.ensures.value ∙ ap (λ (w : SummaryInputsValue). get w.intra.entries p) c.inputs.view_is in
    let leads = subst (λ (o : Option Entry). (t : Through) → (c.finite.result ≡ Some t) ↔ LeadsThrough o t) kept c.finite.ensures in
    leads_inside v p c.finite.result leads through c.in_ok-through.was
    (λ outside. let wrong : true ≡ false = sym (c.is_outside.ensures.1 (subst (λ (w : SummaryInputsValue). IsOutsideRanges w.areas through.area p) (sym c.inputs.view_is) outside)) ∙ c.if-is_outside.false in absurd cc)
