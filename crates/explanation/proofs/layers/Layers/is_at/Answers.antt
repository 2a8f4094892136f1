use Rattle.std.proofs.Common.{◌≡◌, rules, sym, subst, ◌∙◌, ℕ}
use Rattle.std.specs.Prelude.{IsTrue}
use Rattle.ospf_types.specs.declared.key.Scope.TheVariants.{Area}
use Rattle.explanation.specs.declared.offer.OfferKind.TheVariants.{Transit}
use Rattle.explanation.specs.Offered.{IsTransitCost}
use Rattle.explanation.proofs.Rivals.{some_same}
use Rattle.explanation.proofs.Standings.{has_cost, one_cost}
use Rattle.explanation.proofs.layers.Layers.is_at.Goals as goal

pub returns-then-cost-entry : goal.returns-then-cost-entry
returns-then-cost-entry c = (
  λ t.
      let transit : c.args.offer.now.kind ≡ Transit = search rules in
      let here : c.args.offer.now.source.scope ≡ Area c.in-Some.area = search rules in
      (transit, (c.in-Some.area, c.in-Some.is, here, subst (IsTransitCost c.args.self c.in-Some.area c.args.offer.now) c.if-cost-entry.true c.in-Ok.ensures.cost)),
  λ at.
      let same : at.1.0 ≡ c.in-Some.area = some_same at.1.0 c.in-Some.area (sym at.1.1 ∙ c.in-Some.is) in
      let here : c.args.offer.now.source.scope ≡ Area c.in-Some.area = subst (λ (a : ℕ). c.args.offer.now.source.scope ≡ Area a) same at.1.2 in
      let yes : IsTrue c.eq.result = search rules in yes,
)

pub returns-else-cost-entry : goal.returns-else-cost-entry
returns-else-cost-entry c = (
  λ t. search rules,
  λ at.
      let same : at.1.0 ≡ c.in-Some.area = some_same at.1.0 c.in-Some.area (sym at.1.1 ∙ c.in-Some.is) in
      let o = c.args.offer.now in
      let cost = subst (λ (a : ℕ). IsTransitCost c.args.self a o c.args.entry.now.cost) same at.1.3 in
      absurd (c.if-cost-entry.false (one_cost c.args.self c.requires c.in-Some.area o c.in-Ok.cost c.args.entry.now.cost c.in-Ok.ensures.cost cost)),
)

pub returns-in-Err : goal.returns-in-Err
returns-in-Err c = (
  λ t. absurd (let wrong = t in cc),
  λ at.
      let same : at.1.0 ≡ c.in-Some.area = some_same at.1.0 c.in-Some.area (sym at.1.1 ∙ c.in-Some.is) in
      let o = c.args.offer.now in
      let cost = subst (λ (a : ℕ). IsTransitCost c.args.self a o c.args.entry.now.cost) same at.1.3 in
      absurd (has_cost c.args.self c.requires c.in-Some.area o c.args.entry.now.cost _ cost c.in-Err.ensures.none),
)
