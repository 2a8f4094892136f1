-- A vertex more in the order of the rows.
use Rattle.std.proofs.Common.{ℕ, ◌+◌, ◌<◌, List, [], ◌∷◌, ◌++◌, length, take, get_or, sym, subst}
use Rattle.std.specs.List.{insert}
use Rattle.std.specs.List.Sorted.{IsPermutation}
use Rattle.std.proofs.lemmas.List.{take_more}
use Rattle.std.proofs.lemmas.List.Sorted.{IsPermutation-trans, IsPermutation-to_front, IsPermutation-append_right, IsPermutation-insert}

module _ {X : Type 0} where
  -- one more, put in anywhere
  pub one_inserted : (xs ys : List X) (i place : ℕ) (d : X) → i < length xs → IsPermutation (take i xs) ys → IsPermutation (take (i + 1) xs) (insert ys place (get_or xs i d))
  one_inserted xs ys i place d lt moved =
      let x = get_or xs i d in
      subst (λ (zs : List X). IsPermutation zs (insert ys place x)) (sym (take_more xs i d lt))
      (IsPermutation-trans (take i xs ++ x ∷ []) (x ∷ take i xs) (insert ys place x) (IsPermutation-to_front (take i xs) x)
      (IsPermutation-trans (x ∷ take i xs) (x ∷ ys) (insert ys place x) (IsPermutation-append_right (x ∷ []) (take i xs) ys moved) (IsPermutation-insert ys place x)))
