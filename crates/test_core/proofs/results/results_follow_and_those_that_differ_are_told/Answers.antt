-- All keys are named that have or had a result.
use Rattle.std.proofs.Common.{ℕ, List, refl, sym, ap, subst, ◌∙◌, arith}
use Rattle.std.specs.FinMap.{from_entries, get, get-empty}
use Rattle.std.specs.Ordering.{nat_cmp}
use Rattle.std.specs.Prelude.{Contains}
use Rattle.test_core.proofs.Only.{not_it, others_stand}
use Rattle.test_core.proofs.results.results_follow_and_those_that_differ_are_told.Goals as goal

pub follow-requires : goal.follow-requires
follow-requires g c = λ k absent.
    let keys = c.in_ok-from_slice.field-0.items in
    let seven = subst (λ (ks : List ℕ). Contains ks 7) (sym c.in_ok-from_slice.ensures.items) (0, omega arith, refl) in
    ap (λ (es : List (ℕ × ℕ)). get (from_entries {R = nat_cmp} es) k) c.new-results.ensures ∙ get-empty nat_cmp k ∙ sym (not_it keys 7 1 seven k absent)

pub follow-requires-2 : goal.follow-requires-2
follow-requires-2 g c = λ k absent.
    let keys = c.in_ok-from_slice-2.field-0.items in
    let seven = subst (λ (ks : List ℕ). Contains ks 7) (sym c.in_ok-from_slice-2.ensures.items) (1, omega arith, refl) in
    let nine = subst (λ (ks : List ℕ). Contains ks 9) (sym c.in_ok-from_slice-2.ensures.items) (0, omega arith, refl) in
    c.in_ok-first.ensures.chosen k ∙ others_stand keys 7 1 9 2 seven nine k absent

pub follow-requires-3 : goal.follow-requires-3
follow-requires-3 g c = λ k absent. c.in_ok-then.ensures.chosen k
