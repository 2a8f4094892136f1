-- Lists in which nothing occurs twice.
use Rattle.std.proofs.Common.{◌≡◌, ◌≢◌, ◌⊎◌, inl, inr, ⊎_elim, ℕ, suc, ◌<◌, List, [], ◌∷◌, ◌++◌, length, get_or, take, map, append_assoc, append-nil, Ordering, refl, sym, subst, ◌∙◌, arith}
use Rattle.std.specs.Prelude.{Contains}
use Rattle.std.specs.declared.cmp.Ordering.TheVariants.{Less, Equal}
use Rattle.std.specs.Cmp.{IsTotalOrder}
use Rattle.std.specs.List.{AllPairs}
use Rattle.std.specs.List.Sorted.{IsStrictlySortedBy}
use Rattle.std.proofs.lemmas.Cmp.{tied_itself}
use Rattle.std.proofs.lemmas.Map.Keys.{Less-from_sorted}
use Rattle.std.proofs.lemmas.List.{get_or-take, get_or_default, length-take}
use Rattle.std.proofs.lemmas.List.Elements.{All-weaker, All-contains_itself, Contains-append_left, Contains-append_right, Contains-append_cases}
use Rattle.std.proofs.lemmas.List.Kept.{AllPairs-cons}
use Rattle.ospf_types.proofs.Elements.{no_element, first_element, later_element, first_or_later, mapped_from}

module _ {X : Type 0} where
  abbrev pub Apart : List X → Type 0
  Apart xs = AllPairs (λ x y. x ≢ y) xs

  pub apart_nil : Apart []
  apart_nil i j d lt within = absurd (omega arith)

  -- the first is none of the rest
  pub apart_first : (x z : X) (xs : List X) → Apart (x ∷ xs) → Contains xs z → x ≢ z
  apart_first x z xs apart c same = apart 0 (suc c.0) z (omega arith) (omega (arith, c.1)) (same ∙ sym c.2)

  pub apart_rest : (x : X) (xs : List X) → Apart (x ∷ xs) → Apart xs
  apart_rest x xs apart i j d lt within = apart (suc i) (suc j) d (omega arith) (omega arith)

  pub apart_cons : (x : X) (xs : List X) → (Contains xs x → ⊥) → Apart xs → Apart (x ∷ xs)
  apart_cons x xs new apart = AllPairs-cons (λ y z. y ≢ z) x xs (All-weaker (Contains xs) (λ y. x ≢ y) (λ y c same. new (subst (Contains xs) (sym same) c)) xs (All-contains_itself xs)) apart

  pub apart_append : (xs ys : List X) → Apart xs → Apart ys → ((x : X) → Contains xs x → Contains ys x → ⊥) → Apart (xs ++ ys)
  apart_append [] ys first second neither = second
  apart_append (x ∷ xs) ys first second neither =
      apart_cons x (xs ++ ys)
      (λ c. ⊎_elim (λ (early : Contains xs x). apart_first x x xs first early refl) (λ (late : Contains ys x). neither x (first_element x xs) late) (Contains-append_cases xs ys x c))
      (apart_append xs ys (apart_rest x xs first) second (λ y early late. neither y (later_element x y xs early) late))

  pub apart_push : (xs : List X) (x : X) → Apart xs → (Contains xs x → ⊥) → Apart (xs ++ x ∷ [])
  apart_push xs x apart new = apart_append xs (x ∷ []) apart (apart_cons x [] (no_element x) apart_nil)
      (λ y early late. ⊎_elim (λ (same : y ≡ x). new (subst (Contains xs) same early)) (λ (none : Contains [] y). no_element y none) (first_or_later x y [] late))

  -- an element is not among those before it
  pub not_among_earlier : (xs : List X) (i : ℕ) (d : X) → i < length xs → Apart xs → Contains (take i xs) (get_or xs i d) → ⊥
  not_among_earlier xs i d within apart c =
      let early : c.0 < i = omega (arith, c.1, length-take i xs) in
      let there : get_or (take i xs) c.0 (get_or xs i d) ≡ get_or xs c.0 (get_or xs i d) = get_or-take i xs c.0 (get_or xs i d) early in
      let here : get_or xs i d ≡ get_or xs i (get_or xs i d) = get_or_default xs i d (get_or xs i d) within in
      apart c.0 i (get_or xs i d) early within (sym there ∙ c.2 ∙ here)

  -- one may be left out
  pub apart_without : (xs ys : List X) (x : X) → Apart (xs ++ x ∷ ys) → Apart (xs ++ ys)
  apart_without [] ys x apart = apart_rest x ys apart
  apart_without (z ∷ xs) ys x apart =
      apart_cons z (xs ++ ys)
      (λ c. apart_first z z (xs ++ x ∷ ys) apart
      (⊎_elim (λ (early : Contains xs z). Contains-append_left xs (x ∷ ys) z early) (λ (late : Contains ys z). Contains-append_right xs (x ∷ ys) z (later_element x z ys late)) (Contains-append_cases xs ys z c)) refl)
      (apart_without xs ys x (apart_rest z (xs ++ x ∷ ys) apart))

  -- where an order says which of two comes first, nothing occurs twice
  pub apart_strict : {cmp : X → X → Ordering} → IsTotalOrder cmp → (xs : List X) → IsStrictlySortedBy cmp xs → Apart xs
  apart_strict {cmp} total xs sorted i j d lt within same =
      let less : cmp (get_or xs i d) (get_or xs j d) ≡ Less = Less-from_sorted cmp xs i j d sorted lt within in
      let equal : cmp (get_or xs i d) (get_or xs j d) ≡ Equal = subst (λ (x : X). cmp (get_or xs i d) x ≡ Equal) same (tied_itself total (get_or xs i d)) in
      let clash : Less ≡ Equal = sym less ∙ equal in absurd cc

  -- one more of those that are given one after another
  pub apart_given : (links new rest whole : List X) (x : X) → whole ≡ x ∷ rest → (new ≡ links) ⊎ (new ≡ links ++ x ∷ []) → Apart (links ++ whole) → Apart (new ++ rest)
  apart_given links new rest whole x steps grown apart =
      let here : Apart (links ++ x ∷ rest) = subst (λ (ys : List X). Apart (links ++ ys)) steps apart in
      elim grown [
        | inl same ↦ subst (λ (ys : List X). Apart (ys ++ rest)) (sym same) (apart_without links rest x here)
        | inr more ↦ subst (λ (ys : List X). Apart (ys ++ rest)) (sym more) (subst (λ (ys : List X). Apart ys) (sym (append_assoc links (x ∷ []) rest)) here)
      ]

  pub apart_end : (links rest : List X) → rest ≡ [] → Apart (links ++ rest) → Apart links
  apart_end links rest done apart = subst (λ (ys : List X). Apart ys) (append-nil links) (subst (λ (ys : List X). Apart (links ++ ys)) done apart)

module _ {X Y : Type 0} (f : X → Y) (one : (x z : X) → f x ≡ f z → x ≡ z) where
  pub apart_mapped : (xs : List X) → Apart xs → Apart (map f xs)
  apart_mapped [] apart = apart_nil
  apart_mapped (x ∷ xs) apart =
      apart_cons (f x) (map f xs)
      (λ c. let from = mapped_from f xs (f x) c in apart_first x from.0 xs apart from.1 (sym (one from.0 x from.2)))
      (apart_mapped xs (apart_rest x xs apart))
