use Rattle.std.proofs.Common.{ℕ, ◌+◌, ◌==◌, List, ◌⊎◌, inl, inr, subst, sym, ap, ◌∙◌}
use Rattle.std.specs.Prelude.{◌↔◌, IsSome, count_by}
use Rattle.std.specs.FinMap.{get}
use Rattle.std.specs.List.{Contains}
use Rattle.std.proofs.lemmas.List.Elements.{Contains-append_left, Contains-append_right, Contains-append_cases}
use Rattle.intra.specs.ReachedRouter.{ReachedByRouter}
use Rattle.intra.proofs.Often.{count_append, count_once}
use Rattle.intra.proofs.area.AreaIntra.push_routers.Goals as goal

pub returns-clause-as_often : goal.returns-clause-as_often
returns-clause-as_often c r =
    let keys = c.key_slice.result.now in
    let old = c.args.routers.now.items in
    let there = subst (λ (m : ReachedByRouter). Contains keys r ↔ IsSome (get m r)) (ap (λ w. w.reached) c.self.view_is) (c.key_slice.ensures.exact r) in
    ap (count_by (λ k. k == r)) c.in_ok-extend_from_slice.ensures.items ∙ count_append (λ k. k == r) old keys
    ∙ ap (λ n. count_by (λ k. k == r) old + n) (count_once r keys (get c.args.self.now.reached r) c.key_slice.ensures.each_once there)

pub returns-clause-exact : goal.returns-clause-exact
returns-clause-exact c r =
    let keys = c.key_slice.result.now in
    let old = c.args.routers.now.items in
    let there = subst (λ (m : ReachedByRouter). Contains keys r ↔ IsSome (get m r)) (ap (λ w. w.reached) c.self.view_is) (c.key_slice.ensures.exact r) in
    subst (λ (xs : List ℕ). Contains xs r ↔ (Contains old r ⊎ IsSome (get c.args.self.now.reached r))) (sym c.in_ok-extend_from_slice.ensures.items) (
      λ h. elim (Contains-append_cases old keys r h) [ inl was ↦ inl was | inr new ↦ inr (there.0 new) ],
      λ w. elim w [ inl was ↦ Contains-append_left old keys r was | inr some ↦ Contains-append_right old keys r (there.1 some) ],
    )
