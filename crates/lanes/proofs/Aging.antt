-- A loop that puts f of each item in its place, and counts those that pass a test.
use Rattle.std.proofs.Common.{◌≡◌, ℕ, ◌+◌, ◌<◌, ◌≤◌, Bool, true, false, cond, List, [], ◌∷◌, ◌++◌, length, map, get_or, set, take, drop, count_by, refl, sym, ap, ◌∙◌, add-zero, arith}
use Rattle.std.proofs.lemmas.List.{take_more_set, map_more, drop-set-lt, drop-drop, get_or-drop, map-append, length-drop, length-take-le, length-map, take-append-drop, append-nil}
use Rattle.std.proofs.lemmas.Slice.{take-put_mid, drop-put_mid}
use Rattle.std.proofs.Math.Seq.{take-add, take-length, drop-length}
use borrow.Rule.Slice.PartMut.{put_mid}
use Rattle.std.proofs.lemmas.List.Sums.{count_by_more_yes, count_by_more_no, sum_by-append}

module _ {X : Type 0} (xs first : List X) (i : ℕ) (x : X) (lt : i < length xs) (same : length xs ≡ length first) (here : x ≡ get_or xs i x) (left : drop i xs ≡ drop i first) where
  -- what is not reached yet is unchanged
  pub not_reached : get_or first i x ≡ x
  not_reached =
      ap (λ (k : ℕ). get_or first k x) (sym (add-zero i)) ∙ sym (get_or-drop i first 0 x) ∙ ap (λ (ys : List X). get_or ys 0 x) (sym left)
      ∙ get_or-drop i xs 0 x ∙ ap (λ (k : ℕ). get_or xs k x) (add-zero i) ∙ sym here

pub one_mapped : {X : Type 0} (f : X → X) (xs first : List X) (i : ℕ) (x : X) → i < length xs → length xs ≡ length first → x ≡ get_or xs i x → take i xs ≡ map f (take i first) → drop i xs ≡ drop i first
    → (take (i + 1) (set xs i (f x)) ≡ map f (take (i + 1) first)) × (drop (i + 1) (set xs i (f x)) ≡ drop (i + 1) first)
one_mapped {X} f xs first i x lt same here so_far left = (
  take_more_set xs i (f x) lt ∙ ap (λ (ys : List X). ys ++ f x ∷ []) so_far
      ∙ ap (λ (y : X). map f (take i first) ++ f y ∷ []) (sym (not_reached xs first i x lt same here left)) ∙ sym (map_more f first i x (omega arith)),
  drop-set-lt (i + 1) xs i (f x) (omega arith) ∙ sym (drop-drop 1 i xs) ∙ ap (drop 1) left ∙ drop-drop 1 i first,
)

count_more : {X : Type 0} (p : X → Bool) (xs : List X) (i : ℕ) (d : X) → i < length xs → count_by p (take (i + 1) xs) ≡ count_by p (take i xs) + cond (p (get_or xs i d)) 1 0
count_more p xs i d lt =
    elim (p (get_or xs i d)) as (λ b. p (get_or xs i d) ≡ b → count_by p (take (i + 1) xs) ≡ count_by p (take i xs) + cond b 1 0) [
      | true ↦ λ e. count_by_more_yes p xs i d lt e
      | false ↦ λ e. count_by_more_no p xs i d lt e ∙ sym (add-zero (count_by p (take i xs)))
    ] refl

pub one_counted : {X : Type 0} (p : X → Bool) (xs first : List X) (i : ℕ) (x : X) → i < length xs → length xs ≡ length first → x ≡ get_or xs i x → drop i xs ≡ drop i first
    → count_by p (take (i + 1) first) ≡ count_by p (take i first) + cond (p x) 1 0
one_counted {X} p xs first i x lt same here left =
    count_more p first i x (omega arith) ∙ ap (λ (y : X). count_by p (take i first) + cond (p y) 1 0) (not_reached xs first i x lt same here left)

drop_further : {X : Type 0} (xs first : List X) (i k j : ℕ) → i + k ≡ j → drop i xs ≡ drop i first → drop j xs ≡ drop j first
drop_further {X} xs first i k j is left =
    ap (λ (n : ℕ). drop n xs) (omega arith) ∙ sym (drop-drop k i xs) ∙ ap (drop k) left ∙ drop-drop k i first ∙ ap (λ (n : ℕ). drop n first) (omega arith)

-- k items more
pub piece_mapped : {X : Type 0} (f : X → X) (xs first : List X) (i k j : ℕ) (ys : List X) → i + k ≡ j → j ≤ length xs → ys ≡ map f (take k (drop i xs)) → take i xs ≡ map f (take i first) → drop i xs ≡ drop i first
    → (take j (put_mid i k xs ys) ≡ map f (take j first)) × (drop j (put_mid i k xs ys) ≡ drop j first)
piece_mapped {X} f xs first i k j ys is le here so_far left =
    let many : length ys ≡ k = ap length here ∙ length-map (take k (drop i xs)) f ∙ length-take-le k (drop i xs) (omega (arith, length-drop i xs)) in (
      take-put_mid i k xs ys j (omega arith) (omega arith) ∙ ap (λ zs. zs ++ ys) so_far ∙ ap (λ zs. map f (take i first) ++ zs) (here ∙ ap (λ zs. map f (take k zs)) left)
          ∙ sym (map-append f (take i first) (take k (drop i first))) ∙ ap (map f) (sym (take-add i k first) ∙ ap (λ (n : ℕ). take n first) is),
      drop-put_mid i k xs ys j (omega arith) (omega arith) many ∙ drop_further xs first i k j is left,
    )

pub piece_counted : {X : Type 0} (p : X → Bool) (xs first : List X) (i k j : ℕ) → i + k ≡ j → drop i xs ≡ drop i first → count_by p (take i first) + count_by p (take k (drop i xs)) ≡ count_by p (take j first)
piece_counted p xs first i k j is left =
    ap (λ zs. count_by p (take i first) + count_by p (take k zs)) left ∙ sym (sum_by-append (λ x. cond (p x) 1 0) (take i first) (take k (drop i first)))
    ∙ ap (count_by p) (sym (take-add i k first) ∙ ap (λ (n : ℕ). take n first) is)

-- all items
pub whole_mapped : {X : Type 0} (f : X → X) (xs first : List X) (n : ℕ) → n ≡ length first → take n xs ≡ map f (take n first) → drop n xs ≡ drop n first → xs ≡ map f first
whole_mapped {X} f xs first n is so_far left =
    sym (take-append-drop n xs) ∙ ap (λ zs. zs ++ drop n xs) so_far ∙ ap (λ zs. map f (take n first) ++ zs) (left ∙ ap (λ (k : ℕ). drop k first) is ∙ drop-length first) ∙ append-nil (map f (take n first))
    ∙ ap (λ (k : ℕ). map f (take k first)) is ∙ ap (map f) (take-length first)
