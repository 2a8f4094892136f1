use Rattle.std.proofs.Common.{◌≡◌, ◌≤◌, None, Some, refl, sym, subst, ap, ◌∙◌, arith}
use Rattle.std.specs.FinMap.{get}
use Rattle.ospf_types.specs.Lsa.{Lsa, MaxAge}
use Rattle.lsa_codec.specs.Readers.{metric_of, with_age}
use Rattle.intra.specs.Inputs.{AreaValue}
use Rattle.explanation.specs.declared.trace.Step.{Step}
use Rattle.explanation.specs.Outside.{IsToldStep}
use Rattle.explanation.proofs.Rivals.{some_same}
use Rattle.explanation.proofs.Told.{if_none, no_step, told_key}
use Rattle.explanation.proofs.layers.Layers.told_step.Goals as goal

pub returns-in_err-within-clause-none : goal.returns-in_err-within-clause-none
returns-in_err-within-clause-none c = if_none c.from_residual.result ((step : Step) → IsToldStep c.args.self c.args.area c.args.border c.args.router step → ⊥) (λ step is. c.in_err-within.ensures.none is.0 is.2.0 is.2.1)

pub returns-in_err-lsa-clause-none : goal.returns-in_err-lsa-clause-none
returns-in_err-lsa-clause-none c =
    let key = told_key c.args.border c.args.router in
    let missing = subst (λ (a : AreaValue). None ≡ get a.lsas key) c.within.view_is c.in_err-lsa.ensures.value in
    if_none c.from_residual-in_err-lsa.result ((step : Step) → IsToldStep c.args.self c.args.area c.args.border c.args.router step → ⊥)
    (no_step c.args.self c.requires c.args.area c.args.border c.args.router c.in_ok-within.within.now c.in_ok-within.ensures.some (λ l is. let wrong : None ≡ Some l = missing ∙ is in absurd cc))

pub returns-then-age-ge-MAX_AGE-clause-none : goal.returns-then-age-ge-MAX_AGE-clause-none
returns-then-age-ge-MAX_AGE-clause-none c =
    let key = told_key c.args.border c.args.router in
    let held = with_age c.in_ok-lsa.lsa.now c.in_ok-lsa.age in
    let found = subst (λ (a : AreaValue). Some held ≡ get a.lsas key) c.within.view_is c.in_ok-lsa.ensures.value in
    no_step c.args.self c.requires c.args.area c.args.border c.args.router c.in_ok-within.within.now c.in_ok-within.ensures.some
    (λ l is young.
    let old = subst (λ (x : Lsa). MaxAge ≤ x.header.age) (some_same held l (found ∙ is)) c.if-age-ge-MAX_AGE.true in
    absurd (omega (arith, old, young)))

pub returns-in_err-cost-clause-none : goal.returns-in_err-cost-clause-none
returns-in_err-cost-clause-none c =
    let key = told_key c.args.border c.args.router in
    let held = with_age c.in_ok-lsa.lsa.now c.in_ok-lsa.age in
    let found = subst (λ (a : AreaValue). Some held ≡ get a.lsas key) c.within.view_is c.in_ok-lsa.ensures.value in
    if_none c.from_residual-in_err-cost.result ((step : Step) → IsToldStep c.args.self c.args.area c.args.border c.args.router step → ⊥)
    (no_step c.args.self c.requires c.args.area c.args.border c.args.router c.in_ok-within.within.now c.in_ok-within.ensures.some
    (λ l is young cost has.
    let wrong : None ≡ Some cost = c.in_err-cost.ensures ∙ ap (λ (x : Lsa). metric_of x.body) (some_same held l (found ∙ is)) ∙ has in
    absurd cc))

pub returns-clause-some : goal.returns-clause-some
returns-clause-some c =
    let held = with_age c.in_ok-lsa.lsa.now c.in_ok-lsa.age in
    let found = subst (λ (a : AreaValue). get a.lsas (told_key c.args.border c.args.router) ≡ Some held) c.within.view_is (sym c.in_ok-lsa.ensures.value) in
    (c.in_ok-within.within.now, held, c.in_ok-within.ensures.some, found, c.if-age-ge-MAX_AGE.false, sym c.in_ok-cost.ensures, c.of.ensures, refl, refl)
