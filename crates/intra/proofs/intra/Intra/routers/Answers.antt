-- The routers of one area more.
use Rattle.std.proofs.Common.{◌==◌, ◌+◌, Bool, ℕ, List, inl, inr, sym, ap, subst, ◌∙◌}
use Rattle.std.specs.Prelude.{◌↔◌, IsSome, is_some, count_by, if◌then◌else◌}
use Rattle.std.specs.FinMap.{get}
use Rattle.std.specs.List.{Contains}
use Rattle.std.proofs.lemmas.List.{take_all}
use Rattle.ospf_types.proofs.Elements.{no_element}
use Rattle.spf.proofs.OfSome.{of_none, of_more, of_all}
use Rattle.intra.specs.Intras.{AreaIntraValue, IntraValue, IsKeptIn}
use Rattle.intra.proofs.Often.{count_more}
use Rattle.intra.proofs.intra.Intra.routers.Goals as goal

abbrev kept_there : AreaIntraValue → ℕ → Type 0
kept_there a router = IsSome (get a.reached router)

abbrev has : ℕ → AreaIntraValue → Bool
has router a = is_some (get a.reached router)

pub loop-kept-init : goal.loop-kept-init
loop-kept-init c = record {
  there = λ r. (λ h. absurd (no_element r (subst (λ (xs : List ℕ). Contains xs r) c.new-routers.ensures.items h)), λ w. absurd (of_none kept_there r w));
  often = λ r. ap (count_by (λ k. k == r)) c.new-routers.ensures.items;
}

pub loop-kept-preserved : goal.loop-kept-preserved
loop-kept-preserved c =
    let areas : List AreaIntraValue = c.deref-kept-items.result.now in
    let i = c.loop-kept.kept-index in
    let a : AreaIntraValue = c.kept-item.result in
    record {
      there = λ r.
          let more = of_more kept_there areas i a r c.loop-kept-test.true c.kept-item.is in
          let pushed = c.in_ok-push_routers.ensures.exact r in (
            λ h. more.1 (elim (pushed.0 h) [ inl was ↦ inl ((c.loop-kept.invariant.there r).0 was) | inr here ↦ inr here ]),
            λ w. pushed.1 (elim (more.0 w) [ inl was ↦ inl ((c.loop-kept.invariant.there r).1 was) | inr here ↦ inr here ]),
          );
      often = λ r.
          c.in_ok-push_routers.ensures.as_often r ∙ ap (λ n. n + (if has r a then 1 else 0)) (c.loop-kept.invariant.often r) ∙ sym (count_more (has r) areas i a c.loop-kept-test.true c.kept-item.is);
    }

pub returns-clause-as_often : goal.returns-clause-as_often
returns-clause-as_often c r =
    let areas : List AreaIntraValue = c.deref-kept-items.result.now in
    let is = c.deref-kept-items.ensures.value ∙ ap (λ (i : IntraValue). i.areas) c.self.view_is in
    c.loop-kept.invariant.often r ∙ ap (count_by (has r)) (take_all c.loop-kept.kept-index areas c.loop-kept-test.false ∙ is)

pub returns-clause-exact : goal.returns-clause-exact
returns-clause-exact c r =
    let all = of_all kept_there c.deref-kept-items.result.now c.loop-kept.kept-index r c.loop-kept-test.false in
    let is = c.deref-kept-items.ensures.value ∙ ap (λ (i : IntraValue). i.areas) c.self.view_is in
    subst (λ (areas : List AreaIntraValue). Contains c.loop-kept.routers.items r ↔ IsKeptIn areas r) is (λ h. all.0 ((c.loop-kept.invariant.there r).0 h), λ w. (c.loop-kept.invariant.there r).1 (all.1 w))
