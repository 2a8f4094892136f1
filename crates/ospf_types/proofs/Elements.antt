-- The elements of a list: its first and those after it, those of this many from the front, and the
-- elements of a mapped list.
use Rattle.std.proofs.Common.{◌≡◌, ℕ, ◌+◌, ◌<◌, List, [], ◌∷◌, ◌++◌, map, length, take, get_or, refl, sym, ap, subst, ◌∙◌, ◌⊎◌, inl, inr, ⊎_elim, arith}
use Rattle.std.specs.Prelude.{◌↔◌}
use Rattle.std.specs.List.{Contains}
use Rattle.std.proofs.lemmas.List.{get_or-map, length-map, take_more}
use Rattle.std.proofs.lemmas.List.Elements.{All-contains, All-map, All-weaker, All-contains_itself, Contains-append_left, Contains-append_right, Contains-append_cases, Contains-get_or, Contains-push, Contains-push_cases}

module _ {X : Type 0} where
  pub no_element : (x : X) → Contains [] x → ⊥
  no_element x h = omega (arith, h.1)

  pub first_element : (x : X) (xs : List X) → Contains (x ∷ xs) x
  first_element x xs = (0, omega arith, refl)

  pub later_element : (x z : X) (xs : List X) → Contains xs z → Contains (x ∷ xs) z
  later_element x z xs h = Contains-append_right (x ∷ []) xs z h

  pub first_or_later : (x z : X) (xs : List X) → Contains (x ∷ xs) z → (z ≡ x) ⊎ Contains xs z
  first_or_later x z xs h =
      ⊎_elim (λ (c : Contains (x ∷ []) z). ⊎_elim (λ (n : Contains [] z). absurd (no_element z n)) (λ (e : x ≡ z). inl (sym e)) (Contains-push_cases [] x z c)) (λ (c : Contains xs z). inr c) (Contains-append_cases (x ∷ []) xs z h)

-- the element at a place
pub contains_at : {A : Type 0} (xs : List A) (i : ℕ) (x : A) → i < length xs → x ≡ get_or xs i x → Contains xs x
contains_at {A} xs i x lt is = subst (λ (z : A). Contains xs z) (sym is) (Contains-get_or xs i x lt)

-- the elements of one more are those before and the next
pub contains_more : {A : Type 0} (xs : List A) (i : ℕ) (x y : A) → i < length xs → x ≡ get_or xs i x → Contains (take (i + 1) xs) y ↔ (Contains (take i xs) y ⊎ (y ≡ x))
contains_more {A} xs i x y lt is =
    let e : take (i + 1) xs ≡ take i xs ++ x ∷ [] = take_more xs i x lt ∙ ap (λ (z : A). take i xs ++ z ∷ []) (sym is) in (
      λ c. elim (Contains-push_cases (take i xs) x y (subst (λ (zs : List A). Contains zs y) e c)) [ inl was ↦ inl was | inr same ↦ inr (sym same) ],
      λ w. subst (λ (zs : List A). Contains zs y) (sym e) (elim w [ inl was ↦ Contains-append_left (take i xs) (x ∷ []) y was | inr same ↦ subst (λ (z : A). Contains (take i xs ++ x ∷ []) z) (sym same) (Contains-push (take i xs) x) ]),
    )

module _ {X Y : Type 0} (f : X → Y) (xs : List X) where
  pub mapped_element : (x : X) → Contains xs x → Contains (map f xs) (f x)
  mapped_element x h = (h.0, omega (arith, h.1, length-map xs f), get_or-map f xs h.0 x (f x) h.1 ∙ ap f h.2)

  pub mapped_from : (y : Y) → Contains (map f xs) y → (x : X) × Contains xs x × (f x ≡ y)
  mapped_from y h =
      All-contains (λ z. (x : X) × Contains xs x × (f x ≡ z)) (map f xs) y (All-map (λ z. (x : X) × Contains xs x × (f x ≡ z)) f xs (All-weaker (Contains xs) (λ x. (w : X) × Contains xs w × (f w ≡ f x)) (λ x c. (x, c, refl)) xs (All-contains_itself xs))) h
