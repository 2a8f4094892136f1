-- The changes of due summaries, area by area, as one list: its length, and the change at a number.
use Rattle.std.proofs.Common.{◌≡◌, ℕ, zero, suc, ◌+◌, ◌-◌, ◌≤◌, List, [], ◌∷◌, ◌++◌, length, drop, Option, Some, None, sym, ap, ◌∙◌, arith}
use Rattle.std.specs.Prelude.{option_map, slice_get}
use Rattle.std.proofs.lemmas.List.{drop_all, drop_more, length-append, length-map}
use Rattle.std.proofs.lemmas.Option.{get_or_from_slice_get, slice_get-map, slice_get_within}
use Rattle.ospf_types.specs.declared.key.Dest.{Dest}
use Rattle.summary_lists.specs.Lists.{Metrics}
use Rattle.abr_c.specs.declared.c_types.CDueChange.{CDueChange}
use Rattle.abr_c.specs.CTypes.{changes_of_area, counted, due_change_of, due_changes_of}

-- the first of those that are left
left_from : {A : Type 0} (xs : List A) (i : ℕ) (x : A) → slice_get xs i ≡ Some x → drop i xs ≡ x ∷ drop (i + 1) xs
left_from {A} xs i x is = drop_more xs i x (slice_get_within xs i x is) ∙ ap (λ (y : A). y ∷ drop (i + 1) xs) (get_or_from_slice_get xs i x x is)

in_first : {A : Type 0} (xs ys : List A) (n : ℕ) (x : A) → slice_get xs n ≡ Some x → slice_get (xs ++ ys) n ≡ Some x
in_first [] ys n x is = absurd cc
in_first (y ∷ xs) ys zero x is = is
in_first (y ∷ xs) ys (suc n) x is = in_first xs ys n x is

past_first : {A : Type 0} (xs ys : List A) (n : ℕ) → length xs ≤ n → slice_get (xs ++ ys) n ≡ slice_get ys (n - length xs)
past_first {A} [] ys n le = let same : n ≡ n - 0 = omega arith in ap (λ (k : ℕ). slice_get ys k) same
past_first (y ∷ xs) ys zero le = absurd (omega (arith, le))
past_first {A} (y ∷ xs) ys (suc n) le =
    let same : n - length xs ≡ suc n - length (y ∷ xs) = omega arith in
    past_first xs ys n (omega (arith, le)) ∙ ap (λ (k : ℕ). slice_get ys k) same

-- ---- how many there are

counted_on : (n rest : ℕ) → counted (counted n + rest) ≡ counted (n + rest)
counted_on n rest = omega arith

-- with those that are left there are as many as in all
abbrev pub AreCounted : List (ℕ × Metrics) → (count place : ℕ) → Type 0
AreCounted all count place = (counted (count + length (due_changes_of (drop place all))) ≡ counted (length (due_changes_of all))) × (count ≤ 18446744073709551615)

module _ (all : List (ℕ × Metrics)) (count place : ℕ) where
  pub counted_more : (area : ℕ) (metrics : Metrics) → slice_get all place ≡ Some (area, metrics) → AreCounted all count place → (next : ℕ) → next ≡ counted (count + length metrics) → next ≤ 18446744073709551615 → AreCounted all next (place + 1)
  counted_more area metrics is are next next_is most =
      let rest = due_changes_of (drop (place + 1) all) in
      let here : List CDueChange = changes_of_area (area, metrics) in
      let long : length (due_changes_of (drop place all)) ≡ length metrics + length rest =
      ap (λ left. length (due_changes_of left)) (left_from all place (area, metrics) is) ∙ length-append here rest ∙ ap (λ n. n + length rest) (length-map metrics (due_change_of area)) in
      let same : (count + length metrics) + length rest ≡ count + length (due_changes_of (drop place all)) = omega (arith, long) in (
        ap (λ (n : ℕ). counted (n + length rest)) next_is ∙ counted_on (count + length metrics) (length rest)
            ∙ ap (λ (n : ℕ). counted n) same ∙ are.0,
        most,
      )

  pub counted_all : length all ≤ place → AreCounted all count place → count ≡ counted (length (due_changes_of all))
  counted_all past are =
      let none : length (due_changes_of (drop place all)) ≡ 0 = ap (λ left. length (due_changes_of left)) (drop_all place all past) in
      let same : count ≡ counted count = omega (arith, are.1) in
      let whole : count ≡ count + length (due_changes_of (drop place all)) = omega (arith, none) in
      same ∙ ap (λ (n : ℕ). counted n) whole ∙ are.0

-- ---- the change at a number

-- it is looked for in those that are left
abbrev pub IsLookedFor : List (ℕ × Metrics) → (n left place : ℕ) → Type 0
IsLookedFor all n left place = slice_get (due_changes_of all) n ≡ slice_get (due_changes_of (drop place all)) left

module _ (all : List (ℕ × Metrics)) (n left place : ℕ) where
  module _ (area : ℕ) (metrics : Metrics) (is : slice_get all place ≡ Some (area, metrics)) (looked : IsLookedFor all n left place) where
    here : List CDueChange
    here = changes_of_area (area, metrics)

    split : slice_get (due_changes_of all) n ≡ slice_get (changes_of_area (area, metrics) ++ due_changes_of (drop (place + 1) all)) left
    split = looked ∙ ap (λ xs. slice_get (due_changes_of xs) left) (left_from all place (area, metrics) is)

    pub found_here : (change : Dest × Option ℕ) → slice_get metrics left ≡ Some change → Some (due_change_of area change) ≡ slice_get (due_changes_of all) n
    found_here change there =
        let first = slice_get-map (due_change_of area) metrics left ∙ ap (option_map (due_change_of area)) there in
        sym (split ∙ in_first (changes_of_area (area, metrics)) (due_changes_of (drop (place + 1) all)) left (due_change_of area change) first)

    pub looked_on : length metrics ≤ left → IsLookedFor all n (left - length metrics) (place + 1)
    looked_on past =
        let long : length (changes_of_area (area, metrics)) ≡ length metrics = length-map metrics (due_change_of area) in
        split ∙ past_first (changes_of_area (area, metrics)) (due_changes_of (drop (place + 1) all)) left (omega (arith, past, long))
        ∙ ap (λ k. slice_get (due_changes_of (drop (place + 1) all)) (left - k)) long

  pub not_found : length all ≤ place → IsLookedFor all n left place → None ≡ slice_get (due_changes_of all) n
  not_found past looked = sym (looked ∙ ap (λ xs. slice_get (due_changes_of xs) left) (drop_all place all past))
