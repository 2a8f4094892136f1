-- A walk over links or TOS entries, one at a time, as a loop does it.
use Rattle.std.proofs.Common.{◌≡◌, ℕ, suc, ◌+◌, ◌-◌, ◌<◌, ◌≤◌, Bool, true, false, ◌||◌, not, eqb, List, [], ◌∷◌, length, drop, refl, sym, ap, ◌∙◌, arith}
use Rattle.std.proofs.lemmas.Bool.{eq-eqb, ne_eqb}
use Rattle.std.specs.Prelude.{slice_index}
use Rattle.std.specs.List.{list_any}
use Rattle.byteorder.specs.Endian.{big_number}
use Rattle.lsa_codec.specs.Faults.{RawTos, RawLink, raw_entries, raw_link, link_size, is_whole, Walk, after_link, walk, is_incomplete}

abbrev pub is_set : RawTos → Bool
is_set t = not (eqb t.reserved 0)

or_assoc : (a b c : Bool) → ((a || b) || c) ≡ (a || (b || c))
or_assoc true b c = refl
or_assoc false b c = refl

or_false : (a : Bool) → (a || false) ≡ a
or_false true = refl
or_false false = refl

or_true : (a b : Bool) → a ≡ true → (a || b) ≡ true
or_true true b e = refl
or_true false b e = absurd cc

or_skip : (a b : Bool) → a ≡ false → (a || b) ≡ b
or_skip true b e = absurd cc
or_skip false b e = refl

-- ---- TOS entries

pub entries_more : (n i : ℕ) (rest : List ℕ) → i < n
    → raw_entries (n - i) rest ≡ record { tos = slice_index rest 0; reserved = slice_index rest 1; metric = big_number 2 (drop 2 rest) } ∷ raw_entries (n - (i + 1)) (drop 4 rest)
unfolding raw_entries
entries_more n i rest lt =
    let k : n - i ≡ suc (n - (i + 1)) = omega arith in
    rw k refl

pub entries_go_on : (n i : ℕ) (rest : List ℕ) (total : Bool) → i < n → eqb (slice_index rest 1) 0 ≡ true → list_any is_set (raw_entries (n - i) rest) ≡ total → list_any is_set (raw_entries (n - (i + 1)) (drop 4 rest)) ≡ total
entries_go_on n i rest total lt e so_far =
    let step = ap (list_any is_set) (entries_more n i rest lt) in
    let skipped = or_skip (not (eqb (slice_index rest 1) 0)) (list_any is_set (raw_entries (n - (i + 1)) (drop 4 rest))) (ap not e) in
    sym skipped ∙ sym step ∙ so_far

pub entries_found : (n i : ℕ) (rest : List ℕ) (total : Bool) → i < n → eqb (slice_index rest 1) 0 ≡ false → list_any is_set (raw_entries (n - i) rest) ≡ total → true ≡ total
entries_found n i rest total lt e so_far =
    let step = ap (list_any is_set) (entries_more n i rest lt) in
    let here = or_true (not (eqb (slice_index rest 1) 0)) (list_any is_set (raw_entries (n - (i + 1)) (drop 4 rest))) (ap not e) in
    sym here ∙ sym step ∙ so_far

pub entries_done : (n i : ℕ) (rest : List ℕ) (total : Bool) → n ≤ i → list_any is_set (raw_entries (n - i) rest) ≡ total → false ≡ total
unfolding raw_entries
entries_done n i rest total le so_far =
    let k : n - i ≡ 0 = omega arith in
    let at : list_any is_set (raw_entries 0 rest) ≡ total = ap (λ (m : ℕ). list_any is_set (raw_entries m rest)) (sym k) ∙ so_far in
    at

-- ---- links

nothing_met : List ℕ → Walk
nothing_met bytes = record { met = []; left = bytes }

pub walk_more : (n i : ℕ) (rest : List ℕ) → i < n → is_whole rest ≡ true → walk (n - i) rest ≡ after_link (raw_link rest) (walk (n - (i + 1)) (drop (link_size rest) rest))
unfolding walk
walk_more n i rest lt whole =
    let k : n - i ≡ suc (n - (i + 1)) = omega arith in
    rw (k, whole) refl

pub walk_stuck : (n i : ℕ) (rest : List ℕ) → i < n → is_whole rest ≡ false → walk (n - i) rest ≡ record { met = []; left = rest }
unfolding walk
walk_stuck n i rest lt whole =
    let k : n - i ≡ suc (n - (i + 1)) = omega arith in
    rw (k, whole) refl

pub walk_done : (n i : ℕ) (rest : List ℕ) → n ≤ i → walk (n - i) rest ≡ record { met = []; left = rest }
unfolding walk
walk_done n i rest le =
    let k : n - i ≡ 0 = omega arith in
    rw k refl

-- what was found before, and what is found in the rest
pub any_more : (p : RawLink → Bool) (n i : ℕ) (rest : List ℕ) (before : Bool) (total : Bool) → i < n → is_whole rest ≡ true → (before || list_any p (walk (n - i) rest).met) ≡ total
    → ((before || p (raw_link rest)) || list_any p (walk (n - (i + 1)) (drop (link_size rest) rest)).met) ≡ total
any_more p n i rest before total lt whole so_far =
    or_assoc before (p (raw_link rest)) _ ∙ ap (λ (w : Walk). before || list_any p w.met) (sym (walk_more n i rest lt whole)) ∙ so_far

pub any_ends : (p : RawLink → Bool) (w : Walk) (rest : List ℕ) (before total : Bool) → w ≡ record { met = []; left = rest } → (before || list_any p w.met) ≡ total → before ≡ total
any_ends p w rest before total e so_far =
    sym (or_false before) ∙ ap (λ (v : Walk). before || list_any p v.met) (sym e) ∙ so_far

pub met_more : (n i : ℕ) (rest : List ℕ) (total : ℕ) → i < n → is_whole rest ≡ true → i + length (walk (n - i) rest).met ≡ total → (i + 1) + length (walk (n - (i + 1)) (drop (link_size rest) rest)).met ≡ total
met_more n i rest total lt whole so_far =
    let step : length (walk (n - i) rest).met ≡ suc (length (walk (n - (i + 1)) (drop (link_size rest) rest)).met) = ap (λ (w : Walk). length w.met) (walk_more n i rest lt whole) in
    omega (arith, step)

pub left_more : (n i : ℕ) (rest total : List ℕ) → i < n → is_whole rest ≡ true → (walk (n - i) rest).left ≡ total → (walk (n - (i + 1)) (drop (link_size rest) rest)).left ≡ total
left_more n i rest total lt whole so_far =
    ap (λ (w : Walk). w.left) (sym (walk_more n i rest lt whole)) ∙ so_far

pub left_ends : (w : Walk) (rest total : List ℕ) → w ≡ record { met = []; left = rest } → w.left ≡ total → rest ≡ total
left_ends w rest total e so_far = ap (λ (v : Walk). v.left) (sym e) ∙ so_far

pub met_ends : (w : Walk) (rest : List ℕ) (i total : ℕ) → w ≡ record { met = []; left = rest } → i + length w.met ≡ total → i ≡ total
met_ends w rest i total e so_far =
    omega (arith, so_far, ap (λ (v : Walk). length v.met) e)

-- fewer were met than are counted
pub cut_short : (i n : ℕ) (w : Walk) → i < n → i ≡ length w.met → true ≡ is_incomplete n w
cut_short i n w lt e =
    let fewer : eqb (length w.met) n ≡ false = ne_eqb _ _ (λ same. absurd (omega (arith, same))) in
    sym (or_true (not (eqb (length w.met) n)) (not (eqb (length w.left) 0)) (ap not fewer))

-- as many were met as are counted: it is a matter of what is left
pub counted : (i n : ℕ) (w : Walk) (rest : List ℕ) → n ≤ i → i ≤ n → i ≡ length w.met → rest ≡ w.left → not (eqb (length rest) 0) ≡ is_incomplete n w
counted i n w rest le ge e left =
    let all : eqb (length w.met) n ≡ true = eq-eqb _ _ (omega arith) in
    ap (λ (r : List ℕ). not (eqb (length r) 0)) left ∙ sym (or_skip (not (eqb (length w.met) n)) (not (eqb (length w.left) 0)) (ap not all))
