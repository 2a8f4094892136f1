-- The elements of the front of a list that a loop has come through, and of the rest of one that it
-- takes apart.
use Rattle.std.proofs.Common.{◌≡◌, ◌↔◌, ◌⊎◌, inl, inr, ⊎_elim, ℕ, ◌+◌, ◌<◌, List, [], ◌∷◌, ◌++◌, length, get_or, take, sym, ap, subst, ◌∙◌}
use Rattle.std.specs.Prelude.{Contains}
use Rattle.std.proofs.lemmas.List.{take_more}
use Rattle.std.proofs.lemmas.List.Elements.{Contains-append_left, Contains-push, Contains-push_cases}
use Rattle.ospf_types.proofs.Elements.{first_element, later_element, first_or_later}

-- one of the front, or this one
abbrev pub IsInOr : {X : Type 0} → List X → X → X → Type 0
IsInOr xs x y = Contains xs y ⊎ (y ≡ x)

module _ {X : Type 0} where
  pub pushed : (xs : List X) (x y : X) → Contains (xs ++ x ∷ []) y ↔ IsInOr xs x y
  pushed xs x y = (
    λ h. ⊎_elim (λ (c : Contains xs y). inl c) (λ (e : x ≡ y). inr (sym e)) (Contains-push_cases xs x y h),
    λ h. ⊎_elim (λ (c : Contains xs y). Contains-append_left xs (x ∷ []) y c) (λ (e : y ≡ x). subst (Contains (xs ++ x ∷ [])) (sym e) (Contains-push xs x)) h,
  )

  -- the front with one more element
  pub more : (xs : List X) (i : ℕ) (x : X) → i < length xs → get_or xs i x ≡ x → (y : X) → Contains (take (i + 1) xs) y ↔ IsInOr (take i xs) x y
  more xs i x within at y =
      let e : take (i + 1) xs ≡ take i xs ++ x ∷ [] = take_more xs i x within ∙ ap (λ z. take i xs ++ z ∷ []) at in
      subst (λ (ys : List X). Contains ys y ↔ IsInOr (take i xs) x y) (sym e) (pushed (take i xs) x y)

  -- the first element or one of the rest
  pub front : (x : X) (xs : List X) (y : X) → Contains (x ∷ xs) y ↔ ((y ≡ x) ⊎ Contains xs y)
  front x xs y = (
    first_or_later x y xs,
    λ h. ⊎_elim (λ (e : y ≡ x). subst (Contains (x ∷ xs)) (sym e) (first_element x xs)) (λ (c : Contains xs y). later_element x y xs c) h,
  )

pub more_at : {X : Type 0} (xs : List X) (i : ℕ) (d : X) → i < length xs → (y : X) → Contains (take (i + 1) xs) y ↔ IsInOr (take i xs) (get_or xs i d) y
more_at {X} xs i d within y = subst (λ (ys : List X). Contains ys y ↔ IsInOr (take i xs) (get_or xs i d) y) (sym (take_more xs i d within)) (pushed (take i xs) (get_or xs i d) y)
