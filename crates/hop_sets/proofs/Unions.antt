-- The union of two lists in order.
use Rattle.std.proofs.Common.{◌≡◌, List, [], ◌∷◌, Ordering, true, refl, sym, ap, subst, ◌∙◌, ◌⊎◌, inl, inr, ⊎_elim}
use Rattle.std.specs.Prelude.{◌↔◌}
use Rattle.std.specs.declared.cmp.Ordering.TheVariants.{Less, Equal, Greater}
use Rattle.std.specs.Ordering.{ordering_reverse, match_ordering}
use Rattle.std.specs.Cmp.{IsTotalOrder}
use Rattle.std.specs.List.{Contains}
use Rattle.std.specs.List.Sorted.{IsStrictlySortedBy}
use Rattle.std.specs.Set.{sorted_merge}
use Rattle.std.proofs.lemmas.List.Elements.{recursion_from_All, All-weaker, All-contains_itself}
use Rattle.std.proofs.lemmas.Map.Keys.{sorted_tail}
use Rattle.std.proofs.lemmas.Map.Lookups.{CmpEqualImpliesEq}
use Rattle.ospf_types.proofs.Elements.{no_element, first_element, later_element, first_or_later}
use Rattle.ospf_types.proofs.OneBest.{later_above}

-- by which of two elements is the lesser
by_rank : {X : Type 0} (P : List X → Type 0) (k : Ordering) (xs ys zs : List X) → (k ≡ Less → P xs) → (k ≡ Equal → P ys) → (k ≡ Greater → P zs) → P (match_ordering k xs ys zs)
by_rank P Less xs ys zs less equal greater = less refl
by_rank P Equal xs ys zs less equal greater = equal refl
by_rank P Greater xs ys zs less equal greater = greater refl

module _ {X : Type 0} where
  -- all has the elements of both lists
  abbrev pub HasBoth : List X → List X → List X → Type 0
  HasBoth xs ys all = (z : X) → Contains all z ↔ (Contains xs z ⊎ Contains ys z)

  one_more_left : (x : X) (xs ys all : List X) → HasBoth xs ys all → HasBoth (x ∷ xs) ys (x ∷ all)
  one_more_left x xs ys all h z = (
    λ c. ⊎_elim (λ (e : z ≡ x). inl (subst (Contains (x ∷ xs)) (sym e) (first_element x xs))) (λ (r : Contains all z). ⊎_elim (λ (l : Contains xs z). inl (later_element x z xs l)) (λ (l : Contains ys z). inr l) ((h z).0 r)) (first_or_later x z all c),
    λ b. ⊎_elim (λ (l : Contains (x ∷ xs) z). ⊎_elim (λ (e : z ≡ x). subst (Contains (x ∷ all)) (sym e) (first_element x all)) (λ (r : Contains xs z). later_element x z all ((h z).1 (inl r))) (first_or_later x z xs l)) (λ (r : Contains ys z). later_element x z all ((h z).1 (inr r))) b,
  )

  other_way : (xs ys all : List X) → HasBoth xs ys all → HasBoth ys xs all
  other_way xs ys all h z = (
    λ c. ⊎_elim (λ (l : Contains xs z). inr l) (λ (r : Contains ys z). inl r) ((h z).0 c),
    λ b. (h z).1 (⊎_elim (λ (l : Contains ys z). inr l) (λ (r : Contains xs z). inl r) b),
  )

  one_more_right : (y : X) (xs ys all : List X) → HasBoth xs ys all → HasBoth xs (y ∷ ys) (y ∷ all)
  one_more_right y xs ys all h = other_way (y ∷ ys) xs (y ∷ all) (one_more_left y ys xs all (other_way xs ys all h))

  one_more_of_both : (x y : X) (xs ys all : List X) → x ≡ y → HasBoth xs ys all → HasBoth (x ∷ xs) (y ∷ ys) (x ∷ all)
  one_more_of_both x y xs ys all same h z = (
    λ c. ⊎_elim (λ (l : Contains (x ∷ xs) z). inl l) (λ (r : Contains ys z). inr (later_element y z ys r)) ((one_more_left x xs ys all h z).0 c),
    λ b. ⊎_elim (λ (l : Contains (x ∷ xs) z). (one_more_left x xs ys all h z).1 (inl l)) (λ (r : Contains (y ∷ ys) z). ⊎_elim (λ (e : z ≡ y). subst (Contains (x ∷ all)) (same ∙ sym e) (first_element x all)) (λ (k : Contains ys z). (one_more_left x xs ys all h z).1 (inr k)) (first_or_later y z ys r)) b,
  )

  has_alone : (xs : List X) → HasBoth xs [] xs
  has_alone xs z = (λ c. inl c, λ b. ⊎_elim (λ (l : Contains xs z). l) (λ (r : Contains [] z). absurd (no_element z r)) b)

module _ {X : Type 0} {R : X → X → Ordering} (o : IsTotalOrder R) (exact : CmpEqualImpliesEq R) where
  merged_at : (x : X) (xs : List X) → ((ys : List X) → HasBoth xs ys (sorted_merge R true xs ys)) → (ys : List X) → HasBoth (x ∷ xs) ys (sorted_merge R true (x ∷ xs) ys)
  merged_at x xs h [] = has_alone (x ∷ xs)
  merged_at x xs h (y ∷ ys) = by_rank (HasBoth (x ∷ xs) (y ∷ ys)) (R x y) _ _ _
      (λ k. one_more_left x xs (y ∷ ys) _ (h (y ∷ ys)))
      (λ k. one_more_of_both x y xs ys _ (exact x y k) (h ys))
      (λ k. one_more_right y (x ∷ xs) ys _ (merged_at x xs h ys))

  -- merged lists have the elements of both
  pub merged_has_both : (xs ys : List X) → HasBoth xs ys (sorted_merge R true xs ys)
  merged_has_both [] ys = other_way ys [] ys (has_alone ys)
  merged_has_both (x ∷ xs) ys = merged_at x xs (merged_has_both xs) ys

  -- an element below all of a list in order goes before them
  sorted_before : (x : X) (all : List X) → ((z : X) → Contains all z → R x z ≡ Less) → IsStrictlySortedBy R all → IsStrictlySortedBy R (x ∷ all)
  unfolding IsStrictlySortedBy
  sorted_before x all below sorted = (recursion_from_All (λ z. R x z ≡ Less) all (All-weaker (Contains all) (λ z. R x z ≡ Less) below all (All-contains_itself all)), sorted)

  -- an element below all of two lists is below all that they have together
  below_both : (x : X) (xs ys all : List X) → HasBoth xs ys all → ((z : X) → Contains xs z → R x z ≡ Less) → ((z : X) → Contains ys z → R x z ≡ Less) → (z : X) → Contains all z → R x z ≡ Less
  below_both x xs ys all h left right z c = ⊎_elim (λ (l : Contains xs z). left z l) (λ (r : Contains ys z). right z r) ((h z).0 c)

  -- what is below the first of a list in order is below all of it
  below_first : (x y : X) (ys : List X) → R x y ≡ Less → IsStrictlySortedBy R (y ∷ ys) → (z : X) → Contains (y ∷ ys) z → R x z ≡ Less
  below_first x y ys less sorted z c =
      ⊎_elim (λ (e : z ≡ y). subst (λ w. R x w ≡ Less) (sym e) less) (λ (r : Contains ys z). o.trans x y z less (later_above o exact y z ys sorted r)) (first_or_later y z ys c)

  sorted_at : (x : X) (xs : List X) → IsStrictlySortedBy R (x ∷ xs) → ((ys : List X) → IsStrictlySortedBy R ys → IsStrictlySortedBy R (sorted_merge R true xs ys)) → (ys : List X) → IsStrictlySortedBy R ys → IsStrictlySortedBy R (sorted_merge R true (x ∷ xs) ys)
  sorted_at x xs p h [] q = p
  sorted_at x xs p h (y ∷ ys) q =
      let right = sorted_tail R y ys q in
      by_rank (IsStrictlySortedBy R) (R x y) _ _ _
      (λ k. sorted_before x _ (below_both x xs (y ∷ ys) _ (merged_has_both xs (y ∷ ys)) (λ z. later_above o exact x z xs p) (below_first x y ys k q)) (h (y ∷ ys) q))
      (λ k. sorted_before x _ (below_both x xs ys _ (merged_has_both xs ys) (λ z. later_above o exact x z xs p) (λ z c. subst (λ w. R w z ≡ Less) (sym (exact x y k)) (later_above o exact y z ys q c))) (h ys right))
      (λ k. sorted_before y _ (below_both y (x ∷ xs) ys _ (merged_has_both (x ∷ xs) ys) (below_first y x xs (o.antisymm y x ∙ ap ordering_reverse k) p) (λ z. later_above o exact y z ys q)) (sorted_at x xs p h ys right))

  -- lists in order are merged in order
  pub merged_in_order : (xs ys : List X) → IsStrictlySortedBy R xs → IsStrictlySortedBy R ys → IsStrictlySortedBy R (sorted_merge R true xs ys)
  merged_in_order [] ys p q = q
  merged_in_order (x ∷ xs) ys p q = sorted_at x xs p (λ zs. merged_in_order xs zs (sorted_tail R x xs p)) ys q
