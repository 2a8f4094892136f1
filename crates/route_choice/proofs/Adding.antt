-- Lists to which more and more is added, one element of another list after the other.
use Rattle.std.proofs.Common.{◌≡◌, ℕ, ◌+◌, ◌<◌, ◌≤◌, List, [], ◌∷◌, ◌++◌, map, length, take, get_or, refl, sym, subst, inl, inr}
use Rattle.std.specs.Prelude.{◌↔◌, Contains}
use Rattle.std.proofs.lemmas.List.{take_all}
use Rattle.std.proofs.lemmas.List.Elements.{Contains-append_left, Contains-append_right, Contains-push, Contains-push_cases}
use Rattle.ospf_types.proofs.Elements.{no_element, contains_more, mapped_element}
use Rattle.route_choice.specs.Lists.{GainsAll, HasMore, IsOfSome}

-- ---- just these more

-- the same, said otherwise
pub more_as : {B : Type 0} (P Q : B → Type 0) (before after : List B) → ((y : B) → P y ↔ Q y) → HasMore P before after → HasMore Q before after
more_as P Q before after same is y = (
  λ c. elim ((is y).0 c) [ inl was ↦ inl was | inr more ↦ inr ((same y).0 more) ],
  λ w. elim w [ inl was ↦ (is y).1 (inl was) | inr more ↦ (is y).1 (inr ((same y).1 more)) ],
)

-- no more
pub more_none : {B : Type 0} (P : B → Type 0) (ys : List B) → ((y : B) → P y → ⊥) → HasMore P ys ys
more_none P ys none y = (λ c. inl c, λ w. elim w [ inl was ↦ was | inr more ↦ absurd (none y more) ])

-- one more
pub more_one : {B : Type 0} (P : B → Type 0) (before after : List B) (x : B) → after ≡ before ++ x ∷ [] → ((y : B) → P y ↔ (y ≡ x)) → HasMore P before after
more_one {B} P before after x pushed one y = (
  λ c. elim (Contains-push_cases before x y (subst (λ (ys : List B). Contains ys y) pushed c)) [ inl was ↦ inl was | inr same ↦ inr ((one y).1 (sym same)) ],
  λ w. subst (λ (ys : List B). Contains ys y) (sym pushed) (elim w [
    | inl was ↦ Contains-append_left before (x ∷ []) y was
    | inr more ↦ subst (λ (z : B). Contains (before ++ x ∷ []) z) (sym ((one y).0 more)) (Contains-push before x)
  ]),
)

-- ---- at least these more

-- no more is wanted
pub gains_none : {B : Type 0} (P : B → Type 0) (ys : List B) → ((y : B) → P y → ⊥) → GainsAll P ys ys
gains_none P ys none y w = elim w [ inl was ↦ was | inr more ↦ absurd (none y more) ]

-- one more
pub gains_one : {B : Type 0} (P : B → Type 0) (before after : List B) (x : B) → after ≡ before ++ x ∷ [] → ((y : B) → P y → y ≡ x) → GainsAll P before after
gains_one {B} P before after x pushed one y w = subst (λ (ys : List B). Contains ys y) (sym pushed) (elim w [
  | inl was ↦ Contains-append_left before (x ∷ []) y was
  | inr more ↦ subst (λ (z : B). Contains (before ++ x ∷ []) z) (sym (one y more)) (Contains-push before x)
])

-- a mapped list more
pub gains_mapped : {A B : Type 0} (f : A → B) (xs : List A) (before after : List B) → after ≡ before ++ map f xs → GainsAll (IsOfSome xs (λ x y. y ≡ f x)) before after
gains_mapped {B = B} f xs before after is y w = subst (λ (ys : List B). Contains ys y) (sym is) (elim w [
  | inl was ↦ Contains-append_left before (map f xs) y was
  | inr more ↦ subst (λ (z : B). Contains (before ++ map f xs) z) (sym more.2) (Contains-append_right before (map f xs) (f more.0) (mapped_element f xs more.0 more.1))
])

-- ---- element by element

module _ {A B : Type 0} (P : A → B → Type 0) where
  -- none of no elements
  pub more_first : (ys : List B) → HasMore (IsOfSome [] P) ys ys
  more_first ys = more_none (IsOfSome [] P) ys (λ y w. no_element w.0 w.1)

  pub gains_first : (ys : List B) → GainsAll (IsOfSome [] P) ys ys
  gains_first ys = gains_none (IsOfSome [] P) ys (λ y w. no_element w.0 w.1)

  module _ (xs : List A) (i : ℕ) (x : A) (a b c : List B) (lt : i < length xs) (is : x ≡ get_or xs i x) where
    -- those of one element more
    pub more_next : HasMore (IsOfSome (take i xs) P) a b → HasMore (P x) b c → HasMore (IsOfSome (take (i + 1) xs) P) a c
    more_next first then y = (
      λ there. elim ((then y).0 there) [
        | inr here ↦ inr (x, (contains_more xs i x x lt is).1 (inr refl), here)
        | inl mid ↦ elim ((first y).0 mid) [ inl was ↦ inl was | inr w ↦ inr (w.0, (contains_more xs i x w.0 lt is).1 (inl w.1), w.2) ]
      ],
      λ w. (then y).1 (elim w [
        | inl was ↦ inl ((first y).1 (inl was))
        | inr more ↦ elim ((contains_more xs i x more.0 lt is).0 more.1) [
          | inl early ↦ inl ((first y).1 (inr (more.0, early, more.2)))
          | inr same ↦ inr (subst (λ (z : A). P z y) same more.2)
        ]
      ]),
    )

    pub gains_next : GainsAll (IsOfSome (take i xs) P) a b → GainsAll (P x) b c → GainsAll (IsOfSome (take (i + 1) xs) P) a c
    gains_next first then y w = then y (elim w [
      | inl was ↦ inl (first y (inl was))
      | inr more ↦ elim ((contains_more xs i x more.0 lt is).0 more.1) [
        | inl early ↦ inl (first y (inr (more.0, early, more.2)))
        | inr same ↦ inr (subst (λ (z : A). P z y) same more.2)
      ]
    ])

  -- those of all elements
  pub more_all : (xs : List A) (i : ℕ) (a b : List B) → length xs ≤ i → HasMore (IsOfSome (take i xs) P) a b → HasMore (IsOfSome xs P) a b
  more_all xs i a b past is = subst (λ (ys : List A). HasMore (IsOfSome ys P) a b) (take_all i xs past) is

  pub gains_all : (xs : List A) (i : ℕ) (a b : List B) → length xs ≤ i → GainsAll (IsOfSome (take i xs) P) a b → GainsAll (IsOfSome xs P) a b
  gains_all xs i a b past is = subst (λ (ys : List A). GainsAll (IsOfSome ys P) a b) (take_all i xs past) is
