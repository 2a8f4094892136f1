-- Sums of work, as far as they can be counted.
use Rattle.std.proofs.Common.{◌≡◌, ℕ, ◌+◌, ◌≤◌, List, [], ◌∷◌, ◌++◌, sym, ap, ◌∙◌, ◌⊎◌, inl, inr, arith}
use Rattle.std.specs.Prelude.{min}
use Rattle.std.specs.List.{sum_by}
use Rattle.std.proofs.lemmas.List.Sums.{sum_by-append, sum_by-cons}
use Rattle.std.proofs.Math.Nat.{min-eq_left, min-eq_right}
use Rattle.spf.specs.Touched.{Touched}
use Rattle.route_layers.specs.Works.{IsTotal, most_count}

-- what is cut off before one more is cut off with it
min_again : (a b most : ℕ) → min (min a most + b) most ≡ min (a + b) most
min_again a b most = elim (a_or a most) [
  | inl le ↦ ap (λ (n : ℕ). min (n + b) most) (min-eq_left le)
  | inr more ↦ ap (λ (n : ℕ). min (n + b) most) (min-eq_right more) ∙ min-eq_right (omega (arith, more)) ∙ sym (min-eq_right (omega (arith, more)))
]
  where
    a_or : (x y : ℕ) → (x ≤ y) ⊎ (y ≤ x)
    a_or x y = grind arith

one_more : (f : Touched → ℕ) (works : List Touched) (x : Touched) (n : ℕ) → n ≡ min (sum_by f works) most_count → min (n + f x) most_count ≡ min (sum_by f (works ++ x ∷ [])) most_count
one_more f works x n is =
    ap (λ (m : ℕ). min (m + f x) most_count) is ∙ min_again (sum_by f works) (f x) most_count
    ∙ ap (λ (m : ℕ). min m most_count) (ap (λ (m : ℕ). sum_by f works + m) (sym (sum_by-cons f x [] ∙ one_of (f x))) ∙ sym (sum_by-append f works (x ∷ [])))
  where
    one_of : (m : ℕ) → m + 0 ≡ m
    one_of m = omega arith

-- the total of some works and one more
pub total_more : (works : List Touched) (w x both : Touched) → IsTotal works w → both.taken ≡ min (w.taken + x.taken) most_count → both.hop_sets ≡ min (w.hop_sets + x.hop_sets) most_count
    → IsTotal (works ++ x ∷ []) both
total_more works w x both total taken sets = (
  taken ∙ one_more (λ (t : Touched). t.taken) works x w.taken total.0,
  sets ∙ one_more (λ (t : Touched). t.hop_sets) works x w.hop_sets total.1,
)
