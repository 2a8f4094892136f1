-- The costliest component, by the inputs that are kept.
use Rattle.std.proofs.Common.{◌≡◌, ℕ, Some, None, refl, sym, subst, ◌∙◌}
use Rattle.std.specs.Prelude.{◌↔◌}
use Rattle.ospf_types.specs.Summaries.{IsGreatest}
use Rattle.summaries.specs.declared.giving.Through.{Through}
use Rattle.summaries.specs.Inputs.{SummaryInputsValue}
use Rattle.summaries.specs.Candidates.{IsRangeThrough}
use Rattle.summaries.specs.Giving.{IsComponentIn}
use Rattle.summaries.proofs.GivenParts.{some_same}
use Rattle.summaries.proofs.giving.range_through.Goals as goal

pub returns-in_err-cost : goal.returns-in_err-cost
returns-in_err-cost c = λ t.
    let just = subst (λ (v : SummaryInputsValue). (c.costliest.result ≡ Some t.cost) ↔ IsGreatest (IsComponentIn v c.args.area.now.id c.args.prefix) t.cost) c.inputs.view_is (c.costliest.ensures t.cost) in (
      λ is. absurd (let wrong : None ≡ Some t = sym c.from_residual.ensures ∙ is in cc),
      λ w. absurd (let wrong : None ≡ Some t.cost = sym c.in_err-cost.was ∙ just.1 w.2 in cc),
    )

pub returns : goal.returns
returns c = λ t.
    let a = c.args.area.now in
    let cost = c.in_ok-cost.cost in
    let just = λ (m : ℕ). subst (λ (v : SummaryInputsValue). (c.costliest.result ≡ Some m) ↔ IsGreatest (IsComponentIn v a.id c.args.prefix) m) c.inputs.view_is (c.costliest.ensures m) in
    let one : Through = record { area = a.id; cost = cost } in (
      λ is. subst (IsRangeThrough c.args.inputs.now a c.args.prefix) (some_same is) (refl, c.if-not-advertises.ensures.0 refl, (just cost).0 c.in_ok-cost.was),
      λ w.
          let same : cost ≡ t.cost = some_same (sym c.in_ok-cost.was ∙ (just t.cost).1 w.2) in
          let is : one ≡ t = λ i. record { area = (sym w.0) i; cost = same i } in
          λ i. Some (is i),
    )
