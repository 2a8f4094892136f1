-- There is one best of some offers, and one list of its items in order.
use Rattle.std.proofs.Common.{◌≡◌, ◌≢◌, List, [], ◌∷◌, Ordering, refl, sym, ap, subst, ◌∙◌, ⊎_elim}
use Rattle.std.specs.Prelude.{◌↔◌}
use Rattle.std.specs.declared.cmp.Ordering.TheVariants.{Less, Equal, Greater}
use Rattle.std.specs.Ordering.{ordering_reverse}
use Rattle.std.specs.Cmp.{IsTotalOrder}
use Rattle.std.specs.List.{Contains}
use Rattle.std.specs.List.Sorted.{IsStrictlySortedBy}
use Rattle.std.proofs.lemmas.Cmp.{tied_itself}
use Rattle.std.proofs.lemmas.List.Elements.{All-from_recursion, All-contains}
use Rattle.std.proofs.lemmas.Map.Keys.{sorted_head, sorted_tail}
use Rattle.std.proofs.lemmas.Map.Lookups.{CmpEqualImpliesEq}
use Rattle.ospf_types.specs.Best.{IsBest}
use Rattle.ospf_types.proofs.Elements.{no_element, first_element, later_element, first_or_later}

module _ {X : Type 0} {R : X → X → Ordering} (o : IsTotalOrder R) (exact : CmpEqualImpliesEq R) where
  not_below_itself : (x : X) → R x x ≢ Less
  not_below_itself x e = let t = tied_itself o x in cc

  not_below : (x y : X) → R x y ≡ Less → R y x ≢ Less
  not_below x y e f = let t : R y x ≡ Greater = o.antisymm y x ∙ ap ordering_reverse e in cc

  -- what is later in a list in order is above the first
  pub later_above : (x z : X) (xs : List X) → IsStrictlySortedBy R (x ∷ xs) → Contains xs z → R x z ≡ Less
  later_above x z xs sorted h = All-contains (λ y. R x y ≡ Less) xs z (All-from_recursion (λ y. R x y ≡ Less) xs (sorted_head R x xs sorted)) h

  -- nothing in a list in order is below the first
  none_below : (x z : X) (xs : List X) → IsStrictlySortedBy R (x ∷ xs) → Contains (x ∷ xs) z → R z x ≢ Less
  none_below x z xs sorted h =
      ⊎_elim (λ (e : z ≡ x). subst (λ y. R y x ≢ Less) (sym e) (not_below_itself x)) (λ (c : Contains xs z). not_below x z (later_above x z xs sorted c)) (first_or_later x z xs h)

  -- neither is below the other
  tied : (x y : X) → R x y ≢ Less → R y x ≢ Less → x ≡ y
  tied x y not_less not_more =
      elim (R x y) as (λ r. R x y ≡ r → x ≡ y) [
        | Less ↦ λ e. absurd (not_less e)
        | Equal ↦ λ e. exact x y e
        | Greater ↦ λ e. absurd (not_more (o.antisymm y x ∙ ap ordering_reverse e))
      ] refl

  -- lists in order that have the same elements are one
  pub same_list : (xs ys : List X) → IsStrictlySortedBy R xs → IsStrictlySortedBy R ys → ((z : X) → Contains xs z ↔ Contains ys z) → xs ≡ ys
  same_list [] [] p q same = refl
  same_list [] (y ∷ ys) p q same = absurd (no_element y ((same y).1 (first_element y ys)))
  same_list (x ∷ xs) [] p q same = absurd (no_element x ((same x).0 (first_element x xs)))
  same_list (x ∷ xs) (y ∷ ys) p q same =
      let first : x ≡ y = tied x y (none_below y x ys q ((same x).0 (first_element x xs))) (none_below x y xs p ((same y).1 (first_element y ys))) in
      let rest : xs ≡ ys = same_list xs ys (sorted_tail R x xs p) (sorted_tail R y ys q) (λ z. (
        λ c. ⊎_elim (λ (e : z ≡ y). absurd (not_below_itself z (subst (λ w. R w z ≡ Less) (first ∙ sym e) (later_above x z xs p c)))) (λ (c : Contains ys z). c) (first_or_later y z ys ((same z).0 (later_element x z xs c))),
        λ c. ⊎_elim (λ (e : z ≡ x). absurd (not_below_itself z (subst (λ w. R w z ≡ Less) (sym first ∙ sym e) (later_above y z ys q c)))) (λ (c : Contains xs z). c) (first_or_later x z xs ((same z).1 (later_element y z ys c))),
      )) in
      λ i. first i ∷ rest i

-- the least key of some offers is one
module _ {K X : Type 0} {R : K → K → Ordering} (o : IsTotalOrder R) (exact : CmpEqualImpliesEq R) (offers : K → X → Type 0) where
  pub same_key : (a b : K) (xs ys : List X) → IsBest R offers a xs → IsBest R offers b ys → a ≡ b
  same_key a b xs ys h k = tied o exact a b (k.least a h.stands.0 h.stands.1) (h.least b k.stands.0 k.stands.1)

  -- and so is the list of what is offered at it
  pub same_items : {S : X → X → Ordering} → IsTotalOrder S → CmpEqualImpliesEq S → (a b : K) (xs ys : List X) → IsBest R offers a xs → IsBest R offers b ys → IsStrictlySortedBy S xs → IsStrictlySortedBy S ys → xs ≡ ys
  same_items item_total item_exact a b xs ys h k p q =
      let same : a ≡ b = same_key a b xs ys h k in
      same_list item_total item_exact xs ys p q (λ z. (
        λ c. (k.union z).1 (subst (λ (key : K). offers key z) same ((h.union z).0 c)),
        λ c. (h.union z).1 (subst (λ (key : K). offers key z) (sym same) ((k.union z).0 c)),
      ))
