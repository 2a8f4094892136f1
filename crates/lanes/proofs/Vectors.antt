-- One vector of a column.
use Rattle.std.proofs.Common.{◌≡◌, ℕ, ◌+◌, ◌-◌, ◌*◌, ◌%◌, ◌^◌, ◌≤◌, Bool, true, false, not, suc, cond, ltb, eqb, nat_eq, List, [], ◌∷◌, length, map, get_or, take, count_by, All, refl, sym, ap, ◌∙◌, arith, w16, replicate}
use Rattle.std.specs.Prelude.{◌||◌}
use Rattle.std.specs.List.{list_any}
use Rattle.std.proofs.lemmas.Bool.Decides.{nat_tests}
use Rattle.std.proofs.lemmas.List.{length-map}
use Rattle.std.proofs.Math.Seq.{take-length}
use Rattle.std.proofs.lemmas.Simd.{map-map, zip2_splat, put_chunk_whole, tops_compared, bitmask_splat, ones-mask_l}
use lib.Count.{ones}
use lib.Lanes.{zip2, mask_l, sel_l, put_chunk, top}
use mir.Val.{bits, hbits}
use Rattle.lanes.specs.Ages.{MaxAge, next_age, comes_to_max_age}

twice_zero : (m : ℕ) → nat_eq (2 * m) 0 ≡ nat_eq m 0
twice_zero m = grind (arith, nat_tests)

some_bit : (m : ℕ) → not (nat_eq (1 + 2 * m) 0) ≡ true
some_bit m = grind (arith, nat_tests)

-- a mask has a bit where some lane passes
any_of_mask : (p : ℕ → Bool) (xs : List ℕ) → not (nat_eq (mask_l (map p xs)) 0) ≡ list_any p xs
any_of_mask p [] = refl
any_of_mask p (x ∷ xs) =
    elim (p x) as (λ b. not (nat_eq (cond b 1 0 + 2 * mask_l (map p xs)) 0) ≡ (b || list_any p xs)) [
      | true ↦ some_bit (mask_l (map p xs))
      | false ↦ ap not (ap (λ (n : ℕ). nat_eq n 0) (omega arith) ∙ twice_zero (mask_l (map p xs))) ∙ any_of_mask p xs
    ]

pub any_by_mask : (p : ℕ → Bool) (mask : ℕ) (xs : List ℕ) → length xs ≡ 32 → mask ≡ mask_l (map p (take 32 xs)) → not (nat_eq mask 0) ≡ list_any p xs
any_by_mask p mask xs full is =
    ap (λ (m : ℕ). not (nat_eq m 0)) is ∙ any_of_mask p (take 32 xs) ∙ ap (list_any p) (ap (λ (n : ℕ). take n xs) (sym full) ∙ take-length xs)

-- two functions that agree on the elements
pub map_same : {X Y : Type 0} (f g : X → Y) (xs : List X) → All (λ x. f x ≡ g x) xs → map f xs ≡ map g xs
map_same f g [] all = refl
map_same f g (x ∷ xs) all =
    ap (λ y. y ∷ map f xs) (all 0 x (omega arith)) ∙ ap (λ ys. g x ∷ ys) (map_same f g xs (λ k d lt. all (suc k) d (omega arith)))

-- the lesser of each lane and m
pub least_of_lanes : (m : ℕ) (xs : List ℕ) → sel_l (map (λ x. ltb x m) xs) xs (replicate (length xs) m) ≡ map (λ x. cond (ltb x m) x m) xs
least_of_lanes m [] = refl
least_of_lanes m (x ∷ xs) = ap (λ ys. cond (ltb x m) x m ∷ ys) (least_of_lanes m xs)

-- the lesser of an age and MaxAge
least_is : (age : ℕ) → cond (ltb (age + 1) 3600) (age + 1) 3600 ≡ next_age age
least_is age = grind (arith, nat_tests)

module _ (xs : List ℕ) (full : length xs ≡ 32) (small : All (λ age. age ≤ MaxAge) xs) where
  whole : take 32 xs ≡ xs
  whole = ap (λ (n : ℕ). take n xs) (sym full) ∙ take-length xs

  -- no lane wraps
  pub lanes_next : zip2 (λ a b. (a + b) % 2 ^ 16) (take 32 xs) (replicate 32 1) ≡ map (λ age. age + 1) xs
  lanes_next =
      zip2_splat (λ a b. (a + b) % 2 ^ 16) (take 32 xs) 32 1 (ap length whole ∙ full) ∙ ap (map (λ age. (age + 1) % 2 ^ 16)) whole
      ∙ map_same (λ age. (age + 1) % 2 ^ 16) (λ age. age + 1) xs (λ k d lt. omega (arith, small k d lt))

module _ (xs next : List ℕ) (full : length xs ≡ 32) (is : next ≡ map (λ age. age + 1) xs) where
  full_next : length next ≡ 32
  full_next = ap length is ∙ length-map xs (λ age. age + 1) ∙ full

  pub lanes_aged : put_chunk 0 xs (sel_l (map (top (hbits w16)) (zip2 (λ a b. cond (ltb a b) (2 ^ bits w16 - 1) 0) next (replicate 32 3600))) next (replicate 32 3600)) ≡ map next_age xs
  lanes_aged =
      let least = ap (λ (ms : List Bool). sel_l ms next (replicate 32 3600)) (tops_compared w16 ltb next (replicate 32 3600) ∙ zip2_splat ltb next 32 3600 full_next)
      ∙ ap (λ (n : ℕ). sel_l (map (λ x. ltb x 3600) next) next (replicate n 3600)) (sym full_next) ∙ least_of_lanes 3600 next
      ∙ ap (map (λ x. cond (ltb x 3600) x 3600)) is ∙ map-map (λ x. cond (ltb x 3600) x 3600) (λ age. age + 1) xs
      ∙ map_same (λ age. cond (ltb (age + 1) 3600) (age + 1) 3600) next_age xs (λ k d lt. least_is (get_or xs k d)) in
      ap (put_chunk 0 xs) least ∙ put_chunk_whole xs (map next_age xs) (sym (length-map xs next_age))

  pub lanes_counted : ones (mask_l (map (top (hbits w16)) (zip2 (λ a b. cond (eqb a b) (2 ^ bits w16 - 1) 0) next (replicate 32 3600))) % 2 ^ 64) ≡ count_by comes_to_max_age xs
  lanes_counted =
      ap ones (bitmask_splat w16 eqb next 32 3600 full_next (omega arith))
      ∙ ap (λ (ms : List Bool). ones (mask_l ms)) (ap (map (λ x. eqb x 3600)) is ∙ map-map (λ x. eqb x 3600) (λ age. age + 1) xs)
      ∙ ones-mask_l comes_to_max_age xs
