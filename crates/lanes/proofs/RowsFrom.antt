-- The rows of a column that pass a test, a piece of the column after another.
use Rattle.std.proofs.Common.{◌≡◌, ℕ, ◌+◌, ◌<◌, ◌≤◌, Bool, true, false, cond, List, [], ◌∷◌, ◌++◌, length, map, get_or, take, drop, filter, All, refl, sym, ap, ◌∙◌, add-zero, arith, append_assoc, length-append}
use Rattle.std.proofs.lemmas.List.{take_more, length-take-le, append-nil, take-take, drop-drop, get_or-drop}
use Rattle.std.proofs.lemmas.List.Elements.{All-cons}
use Rattle.std.proofs.Math.Seq.{take-append_seam, take-add, take-length}
use Rattle.std.specs.Prelude.{◌||◌, Result, Ok, Err, OnErr}
use Rattle.std.specs.List.{list_any}
use Rattle.lanes.specs.Rows.{rows_from, places}

-- the rows of two pieces
pub rows_from-append : {X : Type 0} (p : X → Bool) (k : ℕ) (xs ys : List X) → rows_from p k (xs ++ ys) ≡ rows_from p k xs ++ rows_from p (k + length xs) ys
rows_from-append p k [] ys = ap (λ j. rows_from p j ys) (sym (add-zero k))
rows_from-append p k (x ∷ xs) ys =
    let e : rows_from p (k + 1) (xs ++ ys) ≡ rows_from p (k + 1) xs ++ rows_from p (k + length (x ∷ xs)) ys =
    rows_from-append p (k + 1) xs ys ∙ ap (λ j. rows_from p (k + 1) xs ++ rows_from p j ys) (omega arith) in
    elim (p x) as (λ b. cond b (k ∷ rows_from p (k + 1) (xs ++ ys)) (rows_from p (k + 1) (xs ++ ys)) ≡ cond b (k ∷ rows_from p (k + 1) xs) (rows_from p (k + 1) xs) ++ rows_from p (k + length (x ∷ xs)) ys) [
      | true ↦ ap (λ (t : List ℕ). k ∷ t) e
      | false ↦ e
    ]

-- one row more
pub rows_from-more : {X : Type 0} (p : X → Bool) (k : ℕ) (xs : List X) (i : ℕ) (d : X) → i < length xs → rows_from p k (take (i + 1) xs) ≡ rows_from p k (take i xs) ++ cond (p (get_or xs i d)) ((k + i) ∷ []) []
rows_from-more p k xs i d lt =
    ap (rows_from p k) (take_more xs i d lt) ∙ rows_from-append p k (take i xs) (get_or xs i d ∷ [])
    ∙ ap (λ (j : ℕ). rows_from p k (take i xs) ++ cond (p (get_or xs i d)) ((k + j) ∷ []) []) (length-take-le i xs (omega arith))

-- a turn of a loop that appends the rows that pass
pub appended : {X : Type 0} (p : X → Bool) (k : ℕ) (xs : List X) (i : ℕ) (x : X) (old before now : List ℕ) → i < length xs → x ≡ get_or xs i x → before ≡ old ++ rows_from p k (take i xs)
    → now ≡ before ++ cond (p x) ((k + i) ∷ []) [] → now ≡ old ++ rows_from p k (take (i + 1) xs)
appended p k xs i x old before now lt here so_far step =
    step ∙ ap (λ (rows : List ℕ). rows ++ cond (p x) ((k + i) ∷ []) []) so_far ∙ append_assoc old (rows_from p k (take i xs)) (cond (p x) ((k + i) ∷ []) [])
    ∙ ap (λ y. old ++ (rows_from p k (take i xs) ++ cond (p y) ((k + i) ∷ []) [])) here ∙ ap (λ (rows : List ℕ). old ++ rows) (sym (rows_from-more p k xs i x lt))

-- what every pass appends to, and what none does
pub then_appended : {X : Type 0} (p : X → Bool) (x : X) (row : ℕ) (before : List ℕ) → p x ≡ true → before ++ row ∷ [] ≡ before ++ cond (p x) (row ∷ []) []
then_appended p x row before e = ap (λ b. before ++ cond b (row ∷ []) []) (sym e)

pub else_appended : {X : Type 0} (p : X → Bool) (x : X) (row : ℕ) (before : List ℕ) → p x ≡ false → before ≡ before ++ cond (p x) (row ∷ []) []
else_appended p x row before e = sym (append-nil before) ∙ ap (λ b. before ++ cond b (row ∷ []) []) (sym e)

-- k rows more
pub joined : {X : Type 0} (p : X → Bool) (xs : List X) (i k j : ℕ) (old before now : List ℕ) → i ≤ length xs → i + k ≡ j → before ≡ old ++ rows_from p 0 (take i xs)
    → now ≡ before ++ rows_from p i (take k (drop i xs)) → now ≡ old ++ rows_from p 0 (take j xs)
joined {X} p xs i k j old before now le is so_far step =
    let piece = take k (drop i xs) in
    step ∙ ap (λ (rows : List ℕ). rows ++ rows_from p i piece) so_far ∙ append_assoc old (rows_from p 0 (take i xs)) (rows_from p i piece)
    ∙ ap (λ (n : ℕ). old ++ (rows_from p 0 (take i xs) ++ rows_from p n piece)) (omega (arith, length-take-le i xs le))
    ∙ ap (λ (rows : List ℕ). old ++ rows) (sym (rows_from-append p 0 (take i xs) piece) ∙ ap (rows_from p 0) (sym (take-add i k xs) ∙ ap (λ (n : ℕ). take n xs) is))

-- and with them the whole column
pub joined_last : {X : Type 0} (p : X → Bool) (xs : List X) (i k : ℕ) (old before now : List ℕ) → i ≤ length xs → i + k ≡ length xs → before ≡ old ++ rows_from p 0 (take i xs)
    → now ≡ before ++ rows_from p i (take k (drop i xs)) → now ≡ old ++ rows_from p 0 xs
joined_last p xs i k old before now le is so_far step =
    joined p xs i k (length xs) old before now le is so_far step ∙ ap (λ ys. old ++ rows_from p 0 ys) (take-length xs)

pub on_err_any : {T E P : Type 0} (r : Result T E) → P → OnErr r P
on_err_any (Ok x) p = tt
on_err_any (Err e) p = p

-- no row passes
pub rows_from_none : {X : Type 0} (p : X → Bool) (k : ℕ) (xs : List X) → list_any p xs ≡ false → rows_from p k xs ≡ []
rows_from_none p k [] none = refl
rows_from_none p k (x ∷ xs) none =
    elim (p x) as (λ b. (b || list_any p xs) ≡ false → cond b (k ∷ rows_from p (k + 1) xs) (rows_from p (k + 1) xs) ≡ []) [
      | true ↦ λ e. absurd cc
      | false ↦ λ e. rows_from_none p (k + 1) xs e
    ] none

-- what was there before more was appended is still there
pub kept_further : (old before now more : List ℕ) (n m : ℕ) → n ≡ length old → m ≡ length before → before ≡ old ++ more → take m now ≡ before → take n now ≡ old
kept_further old before now more n m is_n is_m is kept =
    let le : n ≤ m = omega (arith, ap length is, length-append {A = ℕ}) in
    sym (take-take n m now le) ∙ ap (take n) (kept ∙ is) ∙ ap (λ (k : ℕ). take k (old ++ more)) is_n ∙ take-append_seam old more

-- each row is a row of the column
pub rows_from_within : {X : Type 0} (p : X → Bool) (k n : ℕ) (xs : List X) → k + length xs ≤ n → All (λ row. row < n) (rows_from p k xs)
rows_from_within p k n [] le = λ i d lt. absurd (omega arith)
rows_from_within p k n (x ∷ xs) le =
    let rest = rows_from_within p (k + 1) n xs (omega arith) in
    elim (p x) as (λ b. All (λ (row : ℕ). row < n) (cond b (k ∷ rows_from p (k + 1) xs) (rows_from p (k + 1) xs))) [
      | true ↦ All-cons (λ (row : ℕ). row < n) k (rows_from p (k + 1) xs) (omega arith) rest
      | false ↦ rest
    ]

pub places_within : {X : Type 0} (p : X → Bool) (xs : List X) → All (λ row. row < length xs) (places p xs)
places_within p xs = rows_from_within p 0 (length xs) xs (omega arith)

-- the keys at the rows that pass, where column f of the keys is read
module _ {X Y : Type 0} (f : X → Y) (p : Y → Bool) (keys : List X) (d : X) where
  keys_from : (k : ℕ) (xs : List X) → drop k keys ≡ xs → map (λ row. get_or keys row d) (rows_from p k (map f xs)) ≡ filter (λ key. p (f key)) xs
  keys_from k [] left = refl
  keys_from k (x ∷ xs) left =
      let here : get_or keys k d ≡ x = ap (λ (j : ℕ). get_or keys j d) (sym (add-zero k)) ∙ sym (get_or-drop k keys 0 d) ∙ ap (λ (ys : List X). get_or ys 0 d) left in
      let rest = keys_from (k + 1) xs (sym (drop-drop 1 k keys) ∙ ap (drop 1) left) in
      elim (p (f x)) as (λ b. map (λ row. get_or keys row d) (cond b (k ∷ rows_from p (k + 1) (map f xs)) (rows_from p (k + 1) (map f xs))) ≡ cond b (x ∷ filter (λ key. p (f key)) xs) (filter (λ key. p (f key)) xs)) [
        | true ↦ ap (λ y. y ∷ map (λ row. get_or keys row d) (rows_from p (k + 1) (map f xs))) here ∙ ap (λ ys. x ∷ ys) rest
        | false ↦ rest
      ]

  pub keys_at_places : map (λ row. get_or keys row d) (places p (map f keys)) ≡ filter (λ key. p (f key)) keys
  keys_at_places = keys_from 0 keys refl
