-- What holds of some element of a list, element by element.
use Rattle.std.proofs.Common.{◌≡◌, ℕ, ◌+◌, ◌<◌, ◌≤◌, List, [], length, take, get_or, refl, sym, subst, ◌⊎◌, inl, inr}
use Rattle.std.specs.Prelude.{◌↔◌}
use Rattle.std.proofs.lemmas.List.{take_all}
pub use Rattle.ospf_types.proofs.Elements.{contains_at, contains_more}
use Rattle.ospf_types.proofs.Elements.{no_element}
use Rattle.spf.specs.HandedOn.{IsOfSome}

module _ {A B : Type 0} (P : A → B → Type 0) where
  -- none of no elements
  pub of_none : (y : B) → IsOfSome [] P y → ⊥
  of_none y w = no_element w.0 w.1

  -- one more element
  pub of_more : (xs : List A) (i : ℕ) (x : A) (y : B) → i < length xs → x ≡ get_or xs i x → IsOfSome (take (i + 1) xs) P y ↔ (IsOfSome (take i xs) P y ⊎ P x y)
  of_more xs i x y lt is = (
    λ w. elim ((contains_more xs i x w.0 lt is).0 w.1) [ inl was ↦ inl (w.0, was, w.2) | inr same ↦ inr (subst (λ (z : A). P z y) same w.2) ],
    λ w. elim w [ inl was ↦ (was.0, (contains_more xs i x was.0 lt is).1 (inl was.1), was.2) | inr here ↦ (x, (contains_more xs i x x lt is).1 (inr refl), here) ],
  )

  -- all elements
  pub of_all : (xs : List A) (i : ℕ) (y : B) → length xs ≤ i → IsOfSome (take i xs) P y ↔ IsOfSome xs P y
  of_all xs i y past =
      let e : take i xs ≡ xs = take_all i xs past in
      (λ w. subst (λ (zs : List A). IsOfSome zs P y) e w, λ w. subst (λ (zs : List A). IsOfSome zs P y) (sym e) w)
