-- A search through a list, element by element.
use Rattle.std.proofs.Common.{◌≡◌, ℕ, ◌+◌, ◌<◌, ◌≤◌, List, [], length, take, get_or, subst, inl, inr}
use Rattle.std.specs.Prelude.{Contains, All}
use Rattle.std.proofs.lemmas.List.{take_all}
use Rattle.std.proofs.lemmas.List.Elements.{All-contains_itself, All-weaker}
use Rattle.ospf_types.proofs.Elements.{no_element, contains_more}

module _ {A : Type 0} (P : A → Type 0) where
  -- none of them has the property
  abbrev pub HasNone : List A → Type 0
  HasNone xs = (x : A) → Contains xs x → P x → ⊥

  pub none_yet : HasNone []
  none_yet x there has = no_element x there

  pub none_next : (xs : List A) (i : ℕ) (x : A) → i < length xs → x ≡ get_or xs i x → HasNone (take i xs) → (P x → ⊥) → HasNone (take (i + 1) xs)
  none_next xs i x lt is none here y there has = elim ((contains_more xs i x y lt is).0 there) [
    | inl before ↦ none y before has
    | inr same ↦ here (subst P same has)
  ]

  pub none_of : (xs : List A) (i : ℕ) → length xs ≤ i → HasNone (take i xs) → HasNone xs
  none_of xs i past none = subst HasNone (take_all i xs past) none

  pub all_lack : (xs : List A) → HasNone xs → All (λ x. P x → ⊥) xs
  all_lack xs none = All-weaker (Contains xs) (λ x. P x → ⊥) (λ x there. none x there) xs (All-contains_itself xs)
