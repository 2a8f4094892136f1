-- The number of elements of a list that pass a test, counted from the front.
use Rattle.std.proofs.Common.{◌≡◌, ℕ, ◌+◌, ◌<◌, ◌≤◌, ◌^◌, Bool, true, false, cond, List, [], ◌∷◌, filter, length, ap, ◌∙◌, arith}

-- no more pass than there are
short_first : {X : Type 0} (b : Bool) (x : X) (xs : List X) (most : ℕ) → length xs ≤ most → length (cond b (x ∷ xs) xs) ≤ most + 1
short_first true x xs most short = omega (arith, short)
short_first false x xs most short = omega (arith, short)

filter_short : {X : Type 0} (test : X → Bool) (xs : List X) → length (filter test xs) ≤ length xs
filter_short test [] = omega arith
filter_short test (x ∷ xs) = omega (arith, short_first (test x) x (filter test xs) (length xs) (filter_short test xs))

counted_first : {X : Type 0} (b : Bool) (x : X) (xs : List X) → length (cond b (x ∷ xs) xs) ≡ cond b 1 0 + length xs
counted_first true x xs = omega arith
counted_first false x xs = omega arith

-- the count with the first of those that are left is a number of the machine
pub count_fits : {X : Type 0} (test : X → Bool) (all left : List X) (x : X) (rest : List X) (count one : ℕ) → count + length (filter test left) ≡ length (filter test all) → left ≡ x ∷ rest → one ≡ cond (test x) 1 0
    → length all < 2 ^ 63 → count + one < 2 ^ 63
count_fits test all left x rest count one so_far is one_is few =
    let first : length (filter test left) ≡ cond (test x) 1 0 + length (filter test rest) = ap (λ l. length (filter test l)) is ∙ counted_first (test x) x (filter test rest) in
    omega (arith, so_far, first, one_is, filter_short test all, few)
