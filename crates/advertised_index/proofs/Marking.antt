-- A mark stays where others are set.
use Rattle.std.proofs.Common.{◌≡◌, ◌≢◌, ◌⊎◌, ℕ, ◌<◌, ◌≤◌, ◌%◌, Bool, true, false, true≢false, List, length, get_or, set, inl, inr, sym, ap, subst, ◌∙◌, arith}
use Rattle.std.proofs.lemmas.List.{get_or_past, get_or-set_other}
use Rattle.std.proofs.lemmas.Grind.{get_or-set_at}

apart : (a b : ℕ) → (a ≡ b) ⊎ (a ≢ b)
apart a b = grind arith

marked_within : (xs : List Bool) (p : ℕ) → get_or xs p false ≡ true → p < length xs
marked_within xs p was = grind (arith, was, get_or_past xs p false)

-- the list grew, and one place of it is marked
pub still_marked : (xs ys : List Bool) (place p : ℕ) → place < length ys → p < 4096 → ((k : ℕ) (d : Bool) → k < 4096 → k < length xs → get_or ys k d ≡ get_or xs k d) → get_or xs p false ≡ true → get_or (set ys place true) p false ≡ true
still_marked xs ys place p there small same was = elim (apart p place) [
  | inl is ↦ get_or-set_at ys place p true false is there
  | inr other ↦ get_or-set_other ys place p true false other ∙ same p false small (marked_within xs p was) ∙ was
]
