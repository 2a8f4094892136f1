-- Results that are recomputed one after another, and the keys at which another stands then.
use Rattle.std.proofs.Common.{◌≡◌, ◌≢◌, ℕ, zero, suc, ◌+◌, ◌<◌, ◌≤◌, List, [], ◌∷◌, ◌++◌, append_assoc, map, length, get_or, take, drop, Option, Ordering, true, true≢false, refl, sym, ap, subst, ◌∙◌, inl, inr, arith, add-one, drop-cons, append-nil}
use Rattle.std.specs.Prelude.{◌↔◌}
use Rattle.std.specs.FinMap.{IsAntisymmetric}
use Rattle.std.specs.declared.cmp.Ordering.TheVariants.{Less}
use Rattle.std.specs.Ordering.{eq_by_cmp, is_eq}
use Rattle.std.specs.Cmp.{IsTotalOrder, eq_by_cmp_equiv}
use Rattle.std.specs.List.{Contains, AllByRecursion}
use Rattle.std.specs.List.Sorted.{IsStrictlySortedBy}
use Rattle.std.proofs.lemmas.List.{take_all, drop_all, map-append, map-id}
use Rattle.std.proofs.lemmas.List.Elements.{Contains-append_left, Contains-push, Contains-push_cases}
use Rattle.ospf_types.proofs.Elements.{no_element, first_or_later, contains_more}
use Rattle.route_choice.specs.Chosen.{AreChosen, AreRechosen, AreChosenExcept, HasChanged, IsRechosen}
use Rattle.route_choice.proofs.KeyedMaps.{listed_or_not, one_or_other}

-- ---- lists in order

module _ {K : Type 0} (cmp : K → K → Ordering) where
  -- all of the front are of the whole
  fewer : (P : K → Type 0) (xs : List K) (y : K) (ys : List K) → AllByRecursion P (xs ++ y ∷ ys) → AllByRecursion P (xs ++ ys)
  fewer P [] y ys all = all.1
  fewer P (x ∷ xs) y ys all = (all.0, fewer P xs y ys all.1)

  -- without one of them
  pub sorted_without : (xs : List K) (y : K) (ys : List K) → IsStrictlySortedBy cmp (xs ++ y ∷ ys) → IsStrictlySortedBy cmp (xs ++ ys)
  unfolding IsStrictlySortedBy
  sorted_without [] y ys sorted = sorted.1
  sorted_without (x ∷ xs) y ys sorted = (fewer (λ z. cmp x z ≡ Less) xs y ys sorted.0, sorted_without xs y ys sorted.1)

  -- the element at a place is below those after it
  below_at : (x : K) (xs : List K) → AllByRecursion (λ z. cmp x z ≡ Less) xs → (y : K) → Contains xs y → cmp x y ≡ Less
  below_at x [] all y c = absurd (no_element y c)
  below_at x (z ∷ zs) all y c = elim (first_or_later z y zs c) [ inl e ↦ subst (λ (w : K). cmp x w ≡ Less) (sym e) all.0 | inr later ↦ below_at x zs all.1 y later ]

  -- and none of those before it
  pub not_before : IsTotalOrder cmp → (xs : List K) (i : ℕ) (x : K) → IsStrictlySortedBy cmp xs → i < length xs → x ≡ get_or xs i x → Contains (take i xs) x → ⊥
  unfolding IsStrictlySortedBy
  not_before total [] i x sorted lt is c = absurd (omega (arith, lt))
  not_before total (y ∷ ys) zero x sorted lt is c = no_element x c
  not_before total (y ∷ ys) (suc i) x sorted lt is c = elim (first_or_later y x (take i ys) c) [
    | inl e ↦
        let less : cmp y x ≡ Less = below_at y ys sorted.0 x (i, omega (arith, lt), sym is) in
        let same : eq_by_cmp cmp y x ≡ true = subst (λ (w : K). eq_by_cmp cmp y w ≡ true) (sym e) ((eq_by_cmp_equiv total).refl y) in
        absurd (true≢false (sym same ∙ ap is_eq less))
    | inr later ↦ not_before total ys i x sorted.1 (omega (arith, lt)) is later
  ]

-- ---- this many are done

-- the results at the first keys, this many, are recomputed
pub record IsSoFar {K V N : Type 0} (cmp : K → K → Ordering) (IsChosen : K → Option V → Type 0) (named_as : K → N) (old now : K → Option V) (keys : List K) (count : ℕ) (told : List N) : Type 0 where
  pub here : (k : K) → Contains (take count keys) k → IsChosen k (now k)
  pub others : (k : K) → (Contains (take count keys) k → ⊥) → now k ≡ old k
  pub differing : List K
  pub reported_as : told ≡ map named_as differing
  pub exact : (k : K) → Contains differing k ↔ HasChanged old now k
  pub in_order : IsStrictlySortedBy cmp (differing ++ drop count keys)

module _ {K V N : Type 0} (cmp : K → K → Ordering) (IsChosen : K → Option V → Type 0) (named_as : K → N) where
  -- none is done
  pub so_far_none : (old : K → Option V) (keys : List K) (told : List N) → told ≡ [] → IsStrictlySortedBy cmp keys → IsSoFar cmp IsChosen named_as old old keys 0 told
  so_far_none old keys told none sorted = record {
    here = λ k c. absurd (no_element k c);
    others = λ k absent. refl;
    differing = [];
    reported_as = none;
    exact = λ k. (λ c. absurd (no_element k c), λ other. absurd (other refl));
    in_order = sorted;
  }

  -- all are done
  pub so_far_all : (old new : K → Option V) (keys : List K) (i : ℕ) (told : List N) → length keys ≤ i → IsSoFar cmp IsChosen named_as old new keys i told → AreRechosen cmp IsChosen named_as old new keys told
  so_far_all old new keys i told past done =
      let all : take i keys ≡ keys = take_all i keys past in record {
        here = λ k c. done.here k (subst (λ (ks : List K). Contains ks k) (sym all) c);
        others = λ k absent. done.others k (λ c. absent (subst (λ (ks : List K). Contains ks k) all c));
        differing = done.differing;
        reported_as = done.reported_as;
        exact = done.exact;
        in_order = subst (IsStrictlySortedBy cmp) (ap (λ (ks : List K). done.differing ++ ks) (drop_all i keys past) ∙ append-nil done.differing) done.in_order;
      }

  -- at the keys the results are recomputed, and at all others the old results are right
  pub all_chosen : IsTotalOrder cmp → IsAntisymmetric cmp → (old new : K → Option V) (named keys : List K) (told : List N) → ((k : K) → Contains keys k ↔ Contains named k)
      → AreChosenExcept IsChosen named old → AreRechosen cmp IsChosen named_as old new keys told → AreChosen IsChosen new
  all_chosen total exact old new named keys told same stood anew k = elim (listed_or_not total exact k keys) [
    | inl there ↦ anew.here k there
    | inr absent ↦ subst (IsChosen k) (sym (anew.others k absent)) (stood k (λ c. absent ((same k).1 c)))
  ]

-- keys that are reported themselves
pub told_themselves : {K V : Type 0} (cmp : K → K → Ordering) (IsChosen : K → Option V → Type 0) (old new : K → Option V) (keys told : List K) → (anew : AreRechosen cmp IsChosen (λ k. k) old new keys told) → told ≡ anew.differing
told_themselves cmp IsChosen old new keys told anew = anew.reported_as ∙ map-id anew.differing

module _ {K V N : Type 0} (cmp : K → K → Ordering) (total : IsTotalOrder cmp) (exact : IsAntisymmetric cmp) (IsChosen : K → Option V → Type 0) (named_as : K → N)
    (old mid new : K → Option V) (keys : List K) (sorted : IsStrictlySortedBy cmp keys) (i : ℕ) (key : K) (lt : i < length keys) (at : key ≡ get_or keys i key)
    (before after : List N) (done : IsSoFar cmp IsChosen named_as old mid keys i before) (step : IsRechosen IsChosen named_as mid new key before after) where
  -- the result was not recomputed before
  untouched : mid key ≡ old key
  untouched = done.others key (not_before cmp total keys i key sorted lt at)

  -- all other keys are reported as before
  elsewhere : (k : K) → k ≢ key → HasChanged old new k ↔ Contains done.differing k
  elsewhere k other = (
    λ differs. (done.exact k).1 (λ e. differs (step.others k other ∙ e)),
    λ c e. (done.exact k).0 c (sym (step.others k other) ∙ e),
  )

  -- the keys that are left
  abbrev rest : List K
  rest = drop (i + 1) keys

  was : IsStrictlySortedBy cmp (done.differing ++ (key ∷ rest))
  was =
      let left : drop i keys ≡ key ∷ rest = rw (add-one) (drop-cons keys i key lt ∙ ap (λ (k : K). k ∷ drop (suc i) keys) (sym at)) in
      subst (λ (ks : List K). IsStrictlySortedBy cmp (done.differing ++ ks)) left done.in_order

  here_then : (k : K) → Contains (take (i + 1) keys) k → IsChosen k (new k)
  here_then k c = elim (one_or_other total exact key k) [
    | inl e ↦ subst (λ (x : K). IsChosen x (new x)) (sym e) step.here
    | inr other ↦ subst (IsChosen k) (sym (step.others k other)) (done.here k (elim ((contains_more keys i key k lt at).0 c) [ inl early ↦ early | inr e ↦ absurd (other e) ]))
  ]

  others_then : (k : K) → (Contains (take (i + 1) keys) k → ⊥) → new k ≡ old k
  others_then k absent =
      let more = contains_more keys i key k lt at in
      step.others k (λ e. absent (more.1 (inr e))) ∙ done.others k (λ c. absent (more.1 (inl c)))

  -- one key more
  pub so_far_more : IsSoFar cmp IsChosen named_as old new keys (i + 1) after
  so_far_more = elim step.told [
    | inl same ↦ record {
      here = here_then;
      others = others_then;
      differing = done.differing;
      reported_as = same.0 ∙ done.reported_as;
      exact = λ k. elim (one_or_other total exact key k) [
        | inl e ↦ subst (λ (x : K). Contains done.differing x ↔ HasChanged old new x) (sym e) (
          λ c. absurd ((done.exact key).0 c untouched),
          λ differs. absurd (differs (same.1 ∙ untouched)),
        )
        | inr other ↦ ((elsewhere k other).1, (elsewhere k other).0)
      ];
      in_order = sorted_without cmp done.differing key rest was;
    }
    | inr pushed ↦ record {
      here = here_then;
      others = others_then;
      differing = done.differing ++ key ∷ [];
      reported_as = pushed.0 ∙ ap (λ (ns : List N). ns ++ named_as key ∷ []) done.reported_as ∙ sym (map-append named_as done.differing (key ∷ []));
      exact = λ k. (
        λ c. elim (Contains-push_cases done.differing key k c) [
          | inl before ↦ (elsewhere k (λ e. (done.exact key).0 (subst (Contains done.differing) e before) untouched)).1 before
          | inr e ↦ subst (HasChanged old new) e (λ is. pushed.1 (is ∙ sym untouched))
        ],
        λ differs. elim (one_or_other total exact key k) [
          | inl e ↦ subst (Contains (done.differing ++ key ∷ [])) (sym e) (Contains-push done.differing key)
          | inr other ↦ Contains-append_left done.differing (key ∷ []) k ((elsewhere k other).0 differs)
        ],
      );
      in_order = subst (IsStrictlySortedBy cmp) (sym (append_assoc done.differing (key ∷ []) rest)) was;
    }
  ]
