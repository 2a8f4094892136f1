-- How many places a change notes: each belongs to another key with a result, so that there are no
-- more of them than of results.
use Rattle.std.proofs.Common.{◌≡◌, ◌≢◌, ℕ, suc, ◌+◌, ◌<◌, ◌≤◌, List, [], ◌∷◌, ◌++◌, append_assoc, length, get_or, take, drop, Option, Some, None, Ordering, true, true≢false, refl, sym, ap, subst, ◌∙◌, inl, inr, arith, add-one, drop-cons, append-nil}
use Rattle.std.specs.Prelude.{IsSome, IfSome}
use Rattle.std.specs.FinMap.{IsAntisymmetric, get-from_entries}
use Rattle.std.specs.declared.cmp.Ordering.TheVariants.{Less}
use Rattle.std.specs.Ordering.{eq_by_cmp, is_eq}
use Rattle.std.specs.Cmp.{IsTotalOrder, eq_by_cmp_equiv}
use Rattle.std.specs.List.{Contains, AllByRecursion, list_any}
use Rattle.std.specs.List.Sorted.{IsStrictlySortedBy}
use Rattle.std.specs.Option.{option_to_list}
use Rattle.std.proofs.lemmas.List.Elements.{Contains-push_cases}
use Rattle.std.proofs.lemmas.List.{length-append}
use Rattle.std.proofs.lemmas.Map.Keys.{IsDistinct-from_sorted}
use Rattle.std.proofs.lemmas.Map.Steps.{length-le_from_keys}
use Rattle.std.proofs.lemmas.Map.Views.{Contains-from_any, tells_apart}
use Rattle.ospf_types.proofs.Elements.{no_element, first_or_later}
use Rattle.route_choice.specs.Results.{OthersUnchanged, result_in}
use Rattle.route_choice.proofs.ChosenAnew.{sorted_without}

module _ {K : Type 0} (cmp : K → K → Ordering) where
  -- the front of a list in order
  front_of : (xs ys : List K) → IsStrictlySortedBy cmp (xs ++ ys) → IsStrictlySortedBy cmp xs
  unfolding IsStrictlySortedBy
  front_of [] ys sorted = tt
  front_of (x ∷ xs) ys sorted = (all xs ys sorted.0, front_of xs ys sorted.1)
    where
      all : (vs ws : List K) → AllByRecursion (λ z. cmp x z ≡ Less) (vs ++ ws) → AllByRecursion (λ z. cmp x z ≡ Less) vs
      all [] ws below = tt
      all (v ∷ vs) ws below = (below.0, all vs ws below.1)

  -- has no element of what comes after it
  above : (xs : List K) (y : K) (ys : List K) → IsStrictlySortedBy cmp (xs ++ y ∷ ys) → (k : K) → Contains xs k → cmp k y ≡ Less
  unfolding IsStrictlySortedBy
  above [] y ys sorted k c = absurd (no_element k c)
  above (x ∷ xs) y ys sorted k c = elim (first_or_later x k xs c) [
    | inl e ↦ subst (λ (w : K). cmp w y ≡ Less) (sym e) (at xs sorted.0)
    | inr later ↦ above xs y ys sorted.1 k later
  ]
    where
      at : (vs : List K) → AllByRecursion (λ z. cmp x z ≡ Less) (vs ++ y ∷ ys) → cmp x y ≡ Less
      at [] below = below.0
      at (v ∷ vs) below = at vs below.1

  pub other_than : IsTotalOrder cmp → (xs : List K) (y : K) (ys : List K) → IsStrictlySortedBy cmp (xs ++ y ∷ ys) → (k : K) → Contains xs k → k ≢ y
  other_than total xs y ys sorted k c e =
      let less : cmp k y ≡ Less = above xs y ys sorted k c in
      let same : eq_by_cmp cmp k y ≡ true = subst (λ (w : K). eq_by_cmp cmp k w ≡ true) e ((eq_by_cmp_equiv total).refl k) in
      true≢false (sym same ∙ ap is_eq less)

-- at most this many places are noted: each of another key among the first, which has a result now
pub record IsLeft {K V : Type 0} (cmp : K → K → Ordering) (now : K → Option V) (keys : List K) (count left : ℕ) : Type 0 where
  pub standing : List K
  pub at_most : left ≤ length standing
  pub present : (k : K) → Contains standing k → IsSome (now k)
  pub in_order : IsStrictlySortedBy cmp (standing ++ drop count keys)

module _ {K V : Type 0} {cmp : K → K → Ordering} where
  -- none is noted
  pub left_none : (now : K → Option V) (keys : List K) (left : ℕ) → left ≡ 0 → IsStrictlySortedBy cmp keys → IsLeft cmp now keys 0 left
  left_none now keys left none sorted = record {
    standing = [];
    at_most = omega (arith, none);
    present = λ k c. absurd (no_element k c);
    in_order = sorted;
  }

  -- there are no more of them than of results
  pub left_within : IsTotalOrder cmp → IsAntisymmetric cmp → (es : List (K × V)) (keys : List K) (count left : ℕ) → IsLeft cmp (result_in cmp es) keys count left → left ≤ length es
  left_within total exact es keys count left noted =
      let few : length noted.standing ≤ length es =
      length-le_from_keys (eq_by_cmp_equiv total) noted.standing es (IsDistinct-from_sorted cmp noted.standing (front_of cmp noted.standing (drop count keys) noted.in_order))
      (λ q any. subst (λ (o : Option V). IsSome o) (get-from_entries total es q) (noted.present q (Contains-from_any (tells_apart exact) q noted.standing any))) in
      omega (arith, noted.at_most, few)

  module _ (total : IsTotalOrder cmp) (old new : K → Option V) (keys : List K) (i : ℕ) (key : K) (lt : i < length keys) (at : key ≡ get_or keys i key)
      (left : ℕ) (noted : IsLeft cmp old keys i left) (others : OthersUnchanged old new key) where
    abbrev rest : List K
    rest = drop (i + 1) keys

    was : IsStrictlySortedBy cmp (noted.standing ++ (key ∷ rest))
    was =
        let more : drop i keys ≡ key ∷ rest = rw (add-one) (drop-cons keys i key lt ∙ ap (λ (k : K). k ∷ drop (suc i) keys) (sym at)) in
        subst (λ (ks : List K). IsStrictlySortedBy cmp (noted.standing ++ ks)) more noted.in_order

    still : (k : K) → Contains noted.standing k → IsSome (new k)
    still k c = subst (λ (o : Option V). IsSome o) (sym (others k (other_than cmp total noted.standing key rest was k c))) (noted.present k c)

    -- the result at the key is recomputed, and no place is noted
    pub left_chosen : IsLeft cmp new keys i left
    left_chosen = record { standing = noted.standing; at_most = noted.at_most; present = still; in_order = noted.in_order }

    -- or one, if the key has a result
    pub left_more : (place : Option ℕ) → IfSome place (λ _. IsSome (new key)) → IsLeft cmp new keys (i + 1) (left + length (option_to_list place))
    left_more None stands = record {
      standing = noted.standing;
      at_most = omega (arith, noted.at_most);
      present = still;
      in_order = sorted_without cmp noted.standing key rest was;
    }
    left_more (Some place) stands = record {
      standing = noted.standing ++ key ∷ [];
      at_most = let more = length-append noted.standing (key ∷ []) in omega (arith, noted.at_most, more);
      present = λ k c. elim (Contains-push_cases noted.standing key k c) [
        | inl before ↦ still k before
        | inr e ↦ subst (λ (x : K). IsSome (new x)) e stands
      ];
      in_order = subst (IsStrictlySortedBy cmp) (sym (append_assoc noted.standing (key ∷ []) rest)) was;
    }
