-- The first element of a list that passes a test, where the list is changed.
use Rattle.std.proofs.Common.{◌≡◌, ◌⊎◌, ℕ, zero, suc, ◌+◌, ◌<◌, ◌≤◌, Bool, true, false, cond, not, List, [], ◌∷◌, ◌++◌, length, map, drop, get_or, refl, sym, ap, ◌∙◌, inl, inr, Option, Some, None, arith}
use Rattle.std.specs.Prelude.{if◌then◌else◌}
use Rattle.std.specs.List.{list_any, filter, find}
use Rattle.std.proofs.lemmas.List.{length-drop, get_or-drop}
use Rattle.packets.proofs.Choices.{or_false}

module _ {X : Type 0} (test : X → Bool) where
  out_step : (b : Bool) (x : X) (xs : List X) → test x ≡ b → find test (filter (λ y. not (test y)) xs) ≡ None → find test (filter (λ y. not (test y)) (x ∷ xs)) ≡ None
  out_step true x xs e rest = rw e rest
  out_step false x xs e rest = rw (e, e) rest

  -- those that pass are taken out
  pub find_out : (xs : List X) → find test (filter (λ y. not (test y)) xs) ≡ None
  find_out [] = refl
  find_out (x ∷ xs) = out_step (test x) x xs refl (find_out xs)

  put_step : (w : X) (b : Bool) (x : X) (xs : List X) → test w ≡ true → test x ≡ b
      → (list_any test xs ≡ true → find test (map (λ y. if test y then w else y) xs) ≡ Some w)
      → list_any test (x ∷ xs) ≡ true → find test (map (λ y. if test y then w else y) (x ∷ xs)) ≡ Some w
  put_step w true x xs passes e rest some = rw (e, passes) refl
  put_step w false x xs passes e rest some =
      let others : list_any test xs ≡ true = rw e at some in
      rw (e, e) (rest others)

  -- another is in place of those that pass
  pub find_put : (w : X) (xs : List X) → test w ≡ true → list_any test xs ≡ true → find test (map (λ y. if test y then w else y) xs) ≡ Some w
  find_put w [] passes some = absurd cc
  find_put w (x ∷ xs) passes some = put_step w (test x) x xs passes refl (find_put w xs passes) some

  -- the last one passes
  find_last : (w : X) (xs : List X) → test w ≡ true → list_any test xs ≡ false → find test (xs ++ w ∷ []) ≡ Some w
  find_last w [] passes none = rw passes refl
  find_last w (x ∷ xs) passes none =
      let split = or_false (test x) (list_any test xs) none in
      rw split.0 (find_last w xs passes split.1)

  pub find_latest : (w : X) (n : ℕ) (xs : List X) → n ≤ length xs → test w ≡ true → list_any test xs ≡ false → find test (drop n (xs ++ w ∷ [])) ≡ Some w
  find_latest w zero xs few passes none = find_last w xs passes none
  find_latest w (suc n) [] few passes none = absurd (omega arith)
  find_latest w (suc n) (x ∷ xs) few passes none = find_latest w n xs (omega arith) passes (or_false (test x) (list_any test xs) none).1

  -- ---- where only some others are changed

  same_step : (other : X → Bool) (b : Bool) (x : X) (xs : List X) → (other x ≡ true → test x ≡ false) → other x ≡ b
      → find test (filter (λ y. not (other y)) xs) ≡ find test xs → find test (filter (λ y. not (other y)) (x ∷ xs)) ≡ find test (x ∷ xs)
  same_step other true x xs apart e rest = rw (e, apart e) rest
  same_step other false x xs apart e rest = rw e (ap (λ (o : Option X). cond (test x) (Some x) o) rest)

  pub find_others : (other : X → Bool) (xs : List X) → ((x : X) → other x ≡ true → test x ≡ false) → find test (filter (λ y. not (other y)) xs) ≡ find test xs
  find_others other [] apart = refl
  find_others other (x ∷ xs) apart = same_step other (other x) x xs (apart x) refl (find_others other xs apart)

  beside_step : (other : X → Bool) (w : X) (b : Bool) (x : X) (xs : List X) → test w ≡ false → (other x ≡ true → test x ≡ false) → other x ≡ b
      → find test (map (λ y. if other y then w else y) xs) ≡ find test xs → find test (map (λ y. if other y then w else y) (x ∷ xs)) ≡ find test (x ∷ xs)
  beside_step other w true x xs misses apart e rest = rw (e, misses, apart e) rest
  beside_step other w false x xs misses apart e rest = rw e (ap (λ (o : Option X). cond (test x) (Some x) o) rest)

  pub find_beside : (other : X → Bool) (w : X) (xs : List X) → test w ≡ false → ((x : X) → other x ≡ true → test x ≡ false) → find test (map (λ y. if other y then w else y) xs) ≡ find test xs
  find_beside other w [] misses apart = refl
  find_beside other w (x ∷ xs) misses apart = beside_step other w (other x) x xs misses (apart x) refl (find_beside other w xs misses apart)

  pub find_before : (w : X) (xs : List X) → test w ≡ false → find test (xs ++ w ∷ []) ≡ find test xs
  find_before w [] misses = rw misses refl
  find_before w (x ∷ xs) misses = ap (λ (o : Option X). cond (test x) (Some x) o) (find_before w xs misses)

  -- no two pass
  abbrev pub IsOnly : List X → Type 0
  IsOnly xs = (i j : ℕ) (d : X) → i < j → j < length xs → test (get_or xs i d) ≡ true → test (get_or xs j d) ≡ true → ⊥

  nothing_step : (b : Bool) (x : X) (xs : List X) → test x ≡ b → (test x ≡ true → ⊥) → find test xs ≡ None → find test (x ∷ xs) ≡ None
  nothing_step true x xs e fails rest = absurd (fails e)
  nothing_step false x xs e fails rest = rw e rest

  nothing_found : (d : X) (xs : List X) → ((j : ℕ) → j < length xs → test (get_or xs j d) ≡ true → ⊥) → find test xs ≡ None
  nothing_found d [] none = refl
  nothing_found d (x ∷ xs) none = nothing_step (test x) x xs refl (none 0 (omega arith)) (nothing_found d xs (λ j lt. none (suc j) (omega arith)))

  nothing_left : (d : X) (n : ℕ) (xs : List X) → ((j : ℕ) → j < length xs → test (get_or xs j d) ≡ true → ⊥) → find test (drop n xs) ≡ None
  nothing_left d n xs none =
      nothing_found d (drop n xs) (λ j lt passes. none (n + j) (omega (arith, length-drop n xs)) (ap test (sym (get_or-drop n xs j d)) ∙ passes))

  drop_step : (b : Bool) (x : X) (n : ℕ) (xs : List X) → IsOnly (x ∷ xs) → test x ≡ b
      → ((find test (drop n xs) ≡ find test xs) ⊎ (find test (drop n xs) ≡ None)) → (find test (drop n xs) ≡ find test (x ∷ xs)) ⊎ (find test (drop n xs) ≡ None)
  drop_step true x n xs only e rest = inr (nothing_left x n xs (λ j lt passes. only 0 (suc j) x (omega arith) (omega arith) e passes))
  drop_step false x n xs only e rest = rw e rest

  -- the first ones are left out
  pub find_dropped : (n : ℕ) (xs : List X) → IsOnly xs → (find test (drop n xs) ≡ find test xs) ⊎ (find test (drop n xs) ≡ None)
  find_dropped zero xs only = inl refl
  find_dropped (suc n) [] only = inl refl
  find_dropped (suc n) (x ∷ xs) only =
      drop_step (test x) x n xs only refl (find_dropped n xs (λ i j d before inside. only (suc i) (suc j) d (omega arith) (omega arith)))
