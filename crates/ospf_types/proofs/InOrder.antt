-- One more item in a list that is in order.
use Rattle.std.proofs.Common.{◌≡◌, ℕ, zero, suc, ◌+◌, List, [], ◌∷◌, Ordering, sym, ap, ◌∙◌, ◌⊎◌, inl, inr, ⊎_elim, arith}
use Rattle.std.specs.Prelude.{◌↔◌}
use Rattle.std.specs.declared.cmp.Ordering.TheVariants.{Less, Greater}
use Rattle.std.specs.Ordering.{is_lt, ordering_reverse, ordering_index}
use Rattle.std.specs.Cmp.{IsTotalOrder}
use Rattle.std.specs.List.{AllByRecursion, Contains, insert}
use Rattle.std.specs.List.Sorted.{IsStrictlySortedBy, IsSortedBy, IsNonDecreasingBy, IsPartitionPoint}
use Rattle.std.proofs.lemmas.List.Elements.{recursion_from_All, All-from_all_within, Contains-append_left, Contains-append_right, Contains-append_cases, Contains-push_cases}
use Rattle.std.proofs.lemmas.List.Sorted.{searchable_from_sorted, IsPermutation-insert, IsPermutation-sym, Contains-permutation}
use Rattle.std.proofs.lemmas.Map.Keys.{Less-from_sorted}

-- the one item of a list
pub only_item : {X : Type 0} (item x : X) → Contains (item ∷ []) x → x ≡ item
only_item item x h = ⊎_elim (λ (c : Contains [] x). absurd (omega (arith, c.1))) (λ (e : item ≡ x). sym e) (Contains-push_cases [] item x h)

-- an inserted item joins the others
pub has_also_inserted : {X : Type 0} (xs : List X) (i : ℕ) (item x : X) → Contains (insert xs i item) x ↔ (Contains xs x ⊎ (x ≡ item))
has_also_inserted xs i item x =
    let moved = IsPermutation-insert xs i item in (
      λ h. ⊎_elim (λ (c : Contains (item ∷ []) x). inr (only_item item x c)) (λ (c : Contains xs x). inl c) (Contains-append_cases (item ∷ []) xs x (Contains-permutation _ _ x (IsPermutation-sym _ _ moved) h)),
      λ h. Contains-permutation _ _ x moved (⊎_elim (λ (c : Contains xs x). Contains-append_right (item ∷ []) xs x c) (λ (e : x ≡ item). Contains-append_left (item ∷ []) xs x (0, omega arith, sym e)) h),
    )

all_insert : {X : Type 0} (P : X → Type 0) (xs : List X) (i : ℕ) (item : X) → AllByRecursion P xs → P item → AllByRecursion P (insert xs i item)
all_insert P xs zero item all here = (here, all)
all_insert P [] (suc i) item all here = (here, tt)
all_insert P (x ∷ xs) (suc i) item all here = (all.0, all_insert P xs i item all.1 here)

module _ {X : Type 0} {R : X → X → Ordering} (o : IsTotalOrder R) where
  after : (x y : X) → R x y ≡ Less → R y x ≡ Greater
  after x y e = o.antisymm y x ∙ ap ordering_reverse e

  before : (x y : X) → R x y ≡ Greater → R y x ≡ Less
  before x y e = o.antisymm y x ∙ ap ordering_reverse e

  -- a list in order can be searched
  pub searchable : (xs : List X) (item : X) → IsStrictlySortedBy R xs → IsNonDecreasingBy (λ x. ordering_index (R x item)) xs
  searchable xs item sorted = searchable_from_sorted o (λ x. x) xs item in_order
    where
      in_order : IsSortedBy (λ x y. is_lt (R x y)) xs
      in_order k d low high = ap is_lt (after _ _ (Less-from_sorted R xs k (k + 1) d sorted (omega arith) high))

  -- an item that goes where the search ended leaves the list in order
  pub sorted_insert : (xs : List X) (i : ℕ) (item : X) → IsStrictlySortedBy R xs → IsPartitionPoint (λ x. R x item ≡ Less) (λ x. R x item ≡ Greater) xs i → IsStrictlySortedBy R (insert xs i item)
  unfolding IsStrictlySortedBy
  sorted_insert xs zero item sorted place =
      (recursion_from_All (λ x. R item x ≡ Less) xs (All-from_all_within (λ x. R item x ≡ Less) xs (λ k d low high. before _ _ (place.1 k d low high))), sorted)
  sorted_insert [] (suc i) item sorted place = (tt, tt)
  sorted_insert (x ∷ xs) (suc i) item sorted place = (
    all_insert (λ y. R x y ≡ Less) xs i item sorted.0 (place.0 0 x (omega arith) (omega arith)),
    sorted_insert xs i item sorted.1 (λ k d low high. place.0 (suc k) d (omega arith) (omega arith), λ k d low high. place.1 (suc k) d (omega arith) (omega arith)),
  )

  -- a list of one item is in order
  pub sorted_one : (item : X) → IsStrictlySortedBy R (item ∷ [])
  unfolding IsStrictlySortedBy
  sorted_one item = (tt, tt)
