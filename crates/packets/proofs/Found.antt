-- The one element of a list that passes a test.
use Rattle.std.proofs.Common.{◌≡◌, ℕ, zero, suc, ◌+◌, ◌<◌, ◌≤◌, Bool, true, false, cond, not, ltb, List, [], ◌∷◌, length, map, get_or, set, refl, sym, ap, Some, None, arith}
use Rattle.std.specs.Prelude.{if◌then◌else◌}
use Rattle.std.specs.List.{list_any, filter, find, position, position_or_len, remove, slice_get}
use Rattle.packets.proofs.Choices.{or_false}

no_some : {X : Type 0} (b : Bool) (x : X) → cond b (Some x) None ≡ None → b ≡ false
no_some true x e = absurd cc
no_some false x e = refl

ltb_false : (m n : ℕ) → ltb m n ≡ false → n ≤ m
ltb_false m n e = grind arith

module _ {X : Type 0} (test : X → Bool) where
  pub found_at : (xs : List X) (i : ℕ) (d : X) → i < length xs → test (get_or xs i d) ≡ true → ((k : ℕ) → k < i → test (get_or xs k d) ≡ false) → find test xs ≡ slice_get xs i
  found_at [] i d lt here before = absurd (omega arith)
  found_at (x ∷ xs) zero d lt here before = rw here refl
  found_at (x ∷ xs) (suc i) d lt here before =
      let other : test x ≡ false = before 0 (omega arith) in
      rw other (found_at xs i d (omega arith) here (λ k below. before (suc k) (omega arith)))

  pub found_none : (xs : List X) → list_any test xs ≡ false → find test xs ≡ None
  found_none [] none = refl
  found_none (x ∷ xs) none =
      let split = or_false (test x) (list_any test xs) none in
      rw split.0 (found_none xs split.1)

  -- no element passes
  long_step : (b : Bool) (x : X) (xs : List X) → test x ≡ b → (length xs ≤ position_or_len test xs → list_any test xs ≡ false)
      → length (x ∷ xs) ≤ position_or_len test (x ∷ xs) → list_any test (x ∷ xs) ≡ false
  long_step true x xs e rest long =
      let first : position_or_len test (x ∷ xs) ≡ 0 = rw e refl in
      absurd (omega arith)
  long_step false x xs e rest long =
      let more : position_or_len test (x ∷ xs) ≡ 1 + position_or_len test xs = rw e refl in
      rw e (rest (omega arith))

  none_before_end : (xs : List X) → length xs ≤ position_or_len test xs → list_any test xs ≡ false
  none_before_end [] long = refl
  none_before_end (x ∷ xs) long = long_step (test x) x xs refl (none_before_end xs) long

  pub none_at : (xs : List X) → position test xs ≡ None → list_any test xs ≡ false
  none_at xs none = none_before_end xs (ltb_false (position_or_len test xs) (length xs) (no_some _ (position_or_len test xs) none))

  none_step : (b : Bool) (x : X) (xs : List X) → test x ≡ b → (test x ≡ true → ⊥) → list_any test xs ≡ false → list_any test (x ∷ xs) ≡ false
  none_step true x xs e not_this others = absurd (not_this e)
  none_step false x xs e not_this others = rw e others

  none_else : (xs : List X) (d : X) → ((k : ℕ) → k < length xs → test (get_or xs k d) ≡ true → ⊥) → list_any test xs ≡ false
  none_else [] d not_any = refl
  none_else (x ∷ xs) d not_any =
      none_step (test x) x xs refl (not_any 0 (omega arith)) (none_else xs d (λ k lt. not_any (suc k) (omega arith)))

  pub all_kept : (xs : List X) → list_any test xs ≡ false → filter (λ x. not (test x)) xs ≡ xs
  all_kept [] none = refl
  all_kept (x ∷ xs) none =
      let split = or_false (test x) (list_any test xs) none in
      rw split.0 (ap (λ (r : List X). x ∷ r) (all_kept xs split.1))

  all_same : (y : X) (xs : List X) → list_any test xs ≡ false → map (λ x. if test x then y else x) xs ≡ xs
  all_same y [] none = refl
  all_same y (x ∷ xs) none =
      let split = or_false (test x) (list_any test xs) none in
      rw split.0 (ap (λ (r : List X). x ∷ r) (all_same y xs split.1))

  not_first : (b : Bool) (x : X) (i : ℕ) → test x ≡ b → (test x ≡ true → 0 ≡ suc i) → test x ≡ false
  not_first true x i e only =
      let wrong : 0 ≡ suc i = only e in
      absurd (omega arith)
  not_first false x i e only = e

  -- the one that passes is taken out
  pub removed : (xs : List X) (i : ℕ) (d : X) → i < length xs → test (get_or xs i d) ≡ true → ((k : ℕ) → k < length xs → test (get_or xs k d) ≡ true → k ≡ i)
      → remove xs i ≡ filter (λ x. not (test x)) xs
  removed [] i d lt here only = absurd (omega arith)
  removed (x ∷ xs) zero d lt here only =
      let others : list_any test xs ≡ false = none_else xs d (λ k below passes. let wrong : suc k ≡ 0 = only (suc k) (omega arith) passes in absurd (omega arith)) in
      rw here (sym (all_kept xs others))
  removed (x ∷ xs) (suc i) d lt here only =
      let other : test x ≡ false = not_first (test x) x i refl (only 0 (omega arith)) in
      rw other (ap (λ (r : List X). x ∷ r) (removed xs i d (omega arith) here (λ k below passes. let same : suc k ≡ suc i = only (suc k) (omega arith) passes in omega arith)))

  -- another is in its place
  pub replaced : (y : X) (xs : List X) (i : ℕ) (d : X) → i < length xs → test (get_or xs i d) ≡ true → ((k : ℕ) → k < length xs → test (get_or xs k d) ≡ true → k ≡ i)
      → set xs i y ≡ map (λ x. if test x then y else x) xs
  replaced y [] i d lt here only = absurd (omega arith)
  replaced y (x ∷ xs) zero d lt here only =
      let others : list_any test xs ≡ false = none_else xs d (λ k below passes. let wrong : suc k ≡ 0 = only (suc k) (omega arith) passes in absurd (omega arith)) in
      rw here (ap (λ (r : List X). y ∷ r) (sym (all_same y xs others)))
  replaced y (x ∷ xs) (suc i) d lt here only =
      let other : test x ≡ false = not_first (test x) x i refl (only 0 (omega arith)) in
      rw other (ap (λ (r : List X). x ∷ r) (replaced y xs i d (omega arith) here (λ k below passes. let same : suc k ≡ suc i = only (suc k) (omega arith) passes in omega arith)))
