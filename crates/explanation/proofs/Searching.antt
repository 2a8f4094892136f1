-- A search among networks in ascending order.
use Rattle.std.proofs.Common.{◌≡◌, ◌<◌, ◌+◌, ℕ, Bool, true, false, List, length, get_or, Option, Some, None, IfSome, IfNone, Result, Ok, Err, IfErr, refl, sym, ap, subst, ◌∙◌, inl, inr, arith}
use Rattle.std.specs.Prelude.{Contains, is_some}
use Rattle.std.specs.Result.{result_ok}
use Rattle.std.specs.declared.cmp.Ordering.TheVariants.{Less, Greater}
use Rattle.std.specs.Cmp.{eq_by_cmp_equiv}
use Rattle.std.specs.Ordering.{is_eq, is_lt, ordering_index, ordering_reverse}
use Rattle.std.specs.List.Sorted.{IsBinarySearchResult, IsNonDecreasingBy, IsStrictlySortedBy}
use Rattle.std.proofs.lemmas.Bool.{cases_lt}
use Rattle.std.proofs.lemmas.List.Elements.{Contains-get_or}
use Rattle.std.proofs.lemmas.List.Folds.{list_any_at, list_any_none}
use Rattle.std.proofs.lemmas.List.Sorted.{searchable_from_sorted}
use Rattle.std.proofs.lemmas.Map.Keys.{Less-from_sorted}
use Rattle.ospf_types.specs.declared.prefix.Prefix.{Prefix}
use Rattle.ospf_types.specs.Network.{network_cmp}
use Rattle.ospf_types.specs.RangeChanges.{is_same_prefix}
use Rattle.ospf_types.proofs.Orders.{network_total}
use Rattle.explanation.specs.Offers.{IsPlaceOf, is_one_of}
use Rattle.explanation.proofs.OfNetwork.{prefix_same, same_prefix}

none_less : (p : Prefix) → network_cmp p p ≡ Less → ⊥
none_less p less = let equal = (eq_by_cmp_equiv network_total).refl p in let wrong : is_eq Less ≡ true = ap is_eq (sym less) ∙ equal in absurd cc

none_greater : (p : Prefix) → network_cmp p p ≡ Greater → ⊥
none_greater p greater = let equal = (eq_by_cmp_equiv network_total).refl p in let wrong : is_eq Greater ≡ true = ap is_eq (sym greater) ∙ equal in absurd cc

module _ (xs : List Prefix) (ordered : IsStrictlySortedBy network_cmp xs) where
  -- each has one place
  pub one_place : (i j : ℕ) (d : Prefix) → i < length xs → j < length xs → get_or xs i d ≡ get_or xs j d → i ≡ j
  one_place i j d low high same = elim (cases_lt i j) [
    | inl lt ↦ absurd (none_less (get_or xs j d) (ap (λ (q : Prefix). network_cmp q (get_or xs j d)) (sym same) ∙ Less-from_sorted network_cmp xs i j d ordered lt high))
    | inr ge ↦ elim (cases_lt j i) [
      | inl gt ↦ absurd (none_less (get_or xs j d) (ap (network_cmp (get_or xs j d)) (sym same) ∙ Less-from_sorted network_cmp xs j i d ordered gt low))
      | inr le ↦ omega (arith, ge, le)
    ]
  ]

  rising : (p : Prefix) → IsNonDecreasingBy (λ q. ordering_index (network_cmp q p)) xs
  rising p = searchable_from_sorted network_total (λ (q : Prefix). q) xs p (λ k d low high.
      let less = Less-from_sorted network_cmp xs k (k + 1) d ordered (omega arith) high in
      ap is_lt (network_total.antisymm (get_or xs (k + 1) d) (get_or xs k d) ∙ ap ordering_reverse less))

  -- if a search does not find it, it is not there
  pub absent : (p : Prefix) (r : Result ℕ ℕ) → IsBinarySearchResult (λ q. network_cmp q p) xs r → IfErr r (λ _. Contains xs p → ⊥)
  absent p (Ok i) is = tt
  absent p (Err i) is = λ among.
      let parts = is (rising p) in
      elim (cases_lt among.0 i) [
        | inl lt ↦ none_less p (ap (λ (q : Prefix). network_cmp q p) (sym among.2) ∙ parts.0 among.0 p (omega arith) lt)
        | inr ge ↦ none_greater p (ap (λ (q : Prefix). network_cmp q p) (sym among.2) ∙ parts.1 among.0 p ge among.1)
      ]

pub if_none_of : (P : Type 0) (r : Result ℕ ℕ) → IfErr r (λ _. P) → IfNone (result_ok r) P
if_none_of P (Ok i) is = tt
if_none_of P (Err i) is = is

module _ (xs : List Prefix) (p : Prefix) where
  pub found_there : (place : ℕ) → IsPlaceOf xs p place → is_one_of xs p ≡ true
  found_there place is = list_any_at (λ q. is_same_prefix q p) xs place p is.0 (prefix_same (get_or xs place p) p (is.1 p))

  not_same : (q : Prefix) (b : Bool) → is_same_prefix q p ≡ b → (q ≡ p → ⊥) → b ≡ false
  not_same q true is other = absurd (other (same_prefix q p is))
  not_same q false is other = refl

  found_nowhere : (Contains xs p → ⊥) → is_one_of xs p ≡ false
  found_nowhere none = list_any_none (λ q. is_same_prefix q p) xs (λ k d within.
      not_same (get_or xs k d) (is_same_prefix (get_or xs k d) p) refl (λ same. none (subst (Contains xs) same (Contains-get_or xs k d within))))

  pub is_found : (place : Option ℕ) → IfSome place (IsPlaceOf xs p) → IfNone place (Contains xs p → ⊥) → is_some place ≡ is_one_of xs p
  is_found (Some place) some none = sym (found_there place some)
  is_found None some none = sym (found_nowhere none)
