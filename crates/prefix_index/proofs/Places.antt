-- Slots that have a number.
use Rattle.std.proofs.Common.{◌≡◌, ◌≢◌, ℕ, ◌<◌, ◌≤◌, ◌⊎◌, inl, inr, true, false, ◌==◌, nat_lt, List, length, refl, sym, subst, ◌∙◌, true≢false, arith}
use Rattle.std.specs.Prelude.{slice_index}
use Rattle.std.proofs.lemmas.Bool.Decides.{Decides-eqb, nat_tests}
use Rattle.std.proofs.Math.ListN.{get_or-eq_default}
use Rattle.prefix_index.specs.Slots.{IsSlotPlaced}

pub same_or_not : (a b : ℕ) → (a ≡ b) ⊎ (a ≢ b)
same_or_not a b = elim (a == b) as (λ t. (a == b) ≡ t → (a ≡ b) ⊎ (a ≢ b)) [
  | true ↦ λ is. inl ((Decides-eqb a b).0 is)
  | false ↦ λ is. inr (λ same. true≢false (sym ((Decides-eqb a b).1 same) ∙ is))
] refl

-- by whether two places are one
pub by_place : {C : Type 0} (a b : ℕ) → (a ≡ b → C) → (a ≢ b → C) → C
by_place {C} a b same other = elim (same_or_not a b) as (λ _. C) [ inl is ↦ same is | inr is ↦ other is ]

pub below_or_not : (a b : ℕ) → (a < b) ⊎ (b ≤ a)
below_or_not a b = elim (nat_lt a b) as (λ t. nat_lt a b ≡ t → (a < b) ⊎ (b ≤ a)) [
  | true ↦ λ is. inl (grind (arith, nat_tests))
  | false ↦ λ is. inr (grind (arith, nat_tests))
] refl

-- past the end a slot is empty
pub past_end : (xs : List ℕ) (p : ℕ) → length xs ≤ p → slice_index xs p ≡ 0
past_end xs p past = get_or-eq_default xs 0 past

-- a slot that is not empty is not past the end
pub inside : (xs : List ℕ) (p : ℕ) → slice_index xs p ≢ 0 → p < length xs
inside xs p some = elim (below_or_not p (length xs)) as (λ _. p < length xs) [ inl below ↦ below | inr past ↦ absurd (some (past_end xs p past)) ]

module _ {xs : List ℕ} {h n : ℕ} where
  -- the search ends at no empty slot
  pub placed_here : IsSlotPlaced xs h n → n ≢ 0 → slice_index xs h ≢ 0
  placed_here placed some none = by_place h placed.slot
      (λ same. some (sym placed.has ∙ subst (λ (p : ℕ). slice_index xs p ≡ 0) same none))
      (λ apart. let at = placed.after in placed.filled h (omega arith) (omega (arith, apart, at)) none)

  pub placed_inside : IsSlotPlaced xs h n → n ≢ 0 → h < length xs
  placed_inside placed some = inside xs h (placed_here placed some)
