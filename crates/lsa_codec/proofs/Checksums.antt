-- The two sums, part by part and modulo 255, and the bytes that make them 0.
use Rattle.std.proofs.Common.{Some, ltb, ◌≡◌, ◌≢◌, ℕ, ◌+◌, ◌*◌, ◌-◌, ◌/◌, ◌%◌, ◌<◌, ◌≤◌, false, List, [], ◌∷◌, ◌++◌, length, sum, take, drop, get_or, refl, sym, ap, ◌∙◌, arith}
use Rattle.std.proofs.lemmas.List.{length-append, length-drop, length-take, drop_more, drop-append-le, take_all, drop_at, nil_from_length}
use Rattle.std.proofs.lemmas.Bool.{le-ltb}
use Rattle.std.proofs.lemmas.List.Sums.{sum_by-append, sum_by-cons}
use Rattle.byteorder.specs.Endian.{big_number}
use Rattle.lsa_codec.specs.Checksum.{weighted_sum, covered, with_sum, residue, first_check, second_check, check_bytes, sum_field, checksum_of, IsSound, IsOnlySum, IsSumUpToZeros}

pub sum-append : (xs ys : List ℕ) → sum (xs ++ ys) ≡ sum xs + sum ys
sum-append xs ys = sum_by-append (λ x. x) xs ys

pub sum-cons : (x : ℕ) (xs : List ℕ) → sum (x ∷ xs) ≡ x + sum xs
sum-cons x xs = sum_by-cons (λ x. x) x xs

pub weighted_sum-append : (xs ys : List ℕ) → weighted_sum (xs ++ ys) ≡ weighted_sum xs + length ys * sum xs + weighted_sum ys
weighted_sum-append [] ys = omega arith
weighted_sum-append (x ∷ xs) ys =
    omega (arith, weighted_sum-append xs ys, length-append xs ys, sum-cons x xs, ap (λ (n : ℕ). n * x) (length-append xs ys), ap (λ (n : ℕ). length ys * n) (sum-cons x xs))

-- one more byte
pub weighted_more : (xs : List ℕ) (i b plain weighted total : ℕ) → i < length xs → b ≡ get_or xs i 0 → weighted + length (drop i xs) * plain + weighted_sum (drop i xs) ≡ total
    → weighted + (plain + b) + length (drop (i + 1) xs) * (plain + b) + weighted_sum (drop (i + 1) xs) ≡ total
weighted_more xs i b plain weighted total lt is so_far =
    let e : drop i xs ≡ b ∷ drop (i + 1) xs = drop_more xs i 0 lt ∙ ap (λ (x : ℕ). x ∷ drop (i + 1) xs) (sym is) in
    let at : weighted + length (b ∷ drop (i + 1) xs) * plain + weighted_sum (b ∷ drop (i + 1) xs) ≡ total = ap (λ (l : List ℕ). weighted + length l * plain + weighted_sum l) (sym e) ∙ so_far in
    omega (arith, at)

-- ---- modulo 255

plain_reduced : (p c a : ℕ) → ((p + c) % 255 + a) % 255 ≡ (p + (c + a)) % 255
plain_reduced p c a = omega arith

weighted_reduced : (w p n m sc wc wa : ℕ) → ((w + n * p + wc) % 255 + m * ((p + sc) % 255) + wa) % 255 ≡ (w + (n + m) * p + (wc + m * sc + wa)) % 255
weighted_reduced w p n m sc wc wa =
    let split : p + sc ≡ 255 * ((p + sc) / 255) + (p + sc) % 255 = omega arith in
    let times : m * (p + sc) ≡ m * (255 * ((p + sc) / 255) + (p + sc) % 255) = ap (λ (x : ℕ). m * x) split in
    omega (arith, times)

-- the sums of a chunk are taken in, and reduced
pub plain_step : (plain : ℕ) (rest chunk after : List ℕ) (total : ℕ) → rest ≡ chunk ++ after → (plain + sum rest) % 255 ≡ total → ((plain + sum chunk) % 255 + sum after) % 255 ≡ total
plain_step plain rest chunk after total e so_far =
    plain_reduced plain (sum chunk) (sum after) ∙ ap (λ (x : ℕ). (plain + x) % 255) (sym (sum-append chunk after) ∙ ap sum (sym e)) ∙ so_far

pub weighted_step : (plain weighted : ℕ) (rest chunk after : List ℕ) (total : ℕ) → rest ≡ chunk ++ after → (weighted + length rest * plain + weighted_sum rest) % 255 ≡ total
    → ((weighted + length chunk * plain + weighted_sum chunk) % 255 + length after * ((plain + sum chunk) % 255) + weighted_sum after) % 255 ≡ total
weighted_step plain weighted rest chunk after total e so_far =
    let parts : length chunk + length after ≡ length rest = sym (ap length e ∙ length-append chunk after) in
    let sums : weighted_sum chunk + length after * sum chunk + weighted_sum after ≡ weighted_sum rest = sym (ap weighted_sum e ∙ weighted_sum-append chunk after) in
    weighted_reduced weighted plain (length chunk) (length after) (sum chunk) (weighted_sum chunk) (weighted_sum after)
    ∙ ap (λ (n : ℕ). (weighted + n * plain + (weighted_sum chunk + length after * sum chunk + weighted_sum after)) % 255) parts
    ∙ ap (λ (s : ℕ). (weighted + length rest * plain + s) % 255) sums
    ∙ so_far

pub residue_same : (a b : ℕ) → a % 255 ≡ b % 255 → residue a ≡ residue b
residue_same a b e = omega arith

times_reduced : (k p : ℕ) → ((k % 255) * (p % 255)) % 255 ≡ (k * p) % 255
times_reduced k p =
    let ek : k * p ≡ (255 * (k / 255) + k % 255) * p = ap (λ (x : ℕ). x * p) (omega arith) in
    let ep : (k % 255) * p ≡ (k % 255) * (255 * (p / 255) + p % 255) = ap (λ (x : ℕ). (k % 255) * x) (omega arith) in
    omega (arith, ek, ep)

-- the check bytes are made of the reduced sums
pub first_check_reduced : (count plain weighted : ℕ) → residue (((count - 15) % 255) * (plain % 255) + 254 * (weighted % 255)) ≡ first_check count plain weighted
first_check_reduced count plain weighted =
    residue_same _ _ (omega (arith, times_reduced (count - 15) plain))

pub second_check_reduced : (plain first : ℕ) → residue (254 * (plain % 255 + first)) ≡ second_check plain first
second_check_reduced plain first = residue_same _ _ (omega arith)

-- ---- the bytes that make both sums 0

plain_zero : (p x : ℕ) → (p + x + second_check p x) % 255 ≡ 0
plain_zero p x = omega arith

weighted_zero : (m p w x y j : ℕ) → p + x + y ≡ 255 * j → x ≡ residue ((m + 1) * p + 254 * w) → (w + (m + 2) * x + (m + 1) * y) % 255 ≡ 0
weighted_zero m p w x y j e is =
    let q : ℕ = ((m + 1) * p + 254 * w + 254) / 255 in
    let x-is : x + 255 * q ≡ (m + 1) * p + 254 * w + 255 = omega arith in
    let times : (m + 1) * (p + x + y) ≡ (m + 1) * (255 * j) = ap (λ (n : ℕ). (m + 1) * n) e in
    omega (arith, times, x-is)

-- the covered bytes, part by part
parts : (bytes : List ℕ) (x y : ℕ) → 20 ≤ length bytes → covered (with_sum bytes x y) ≡ drop 2 (take 16 bytes) ++ (x ∷ y ∷ drop 18 bytes)
parts bytes x y long =
    drop-append-le 2 (take 16 bytes) (x ∷ y ∷ drop 18 bytes) (omega (arith, length-take 16 bytes))

sum_of_parts : (bytes : List ℕ) (x y : ℕ) → 20 ≤ length bytes → sum (covered (with_sum bytes x y)) ≡ sum (covered (with_sum bytes 0 0)) + x + y
sum_of_parts bytes x y long =
    let front = drop 2 (take 16 bytes) in
    let back = drop 18 bytes in
    let with : sum (covered (with_sum bytes x y)) ≡ sum front + sum (x ∷ y ∷ back) = ap sum (parts bytes x y long) ∙ sum-append front (x ∷ y ∷ back) in
    let without : sum (covered (with_sum bytes 0 0)) ≡ sum front + sum (0 ∷ 0 ∷ back) = ap sum (parts bytes 0 0 long) ∙ sum-append front (0 ∷ 0 ∷ back) in
    omega (arith, with, without, sum-cons x (y ∷ back), sum-cons y back, sum-cons 0 (0 ∷ back), sum-cons 0 back)

weighted_of_parts : (bytes : List ℕ) (x y : ℕ) → 20 ≤ length bytes → weighted_sum (covered (with_sum bytes x y)) ≡ weighted_sum (covered (with_sum bytes 0 0)) + (length (drop 18 bytes) + 2) * x + (length (drop 18 bytes) + 1) * y
weighted_of_parts bytes x y long =
    let front = drop 2 (take 16 bytes) in
    let back = drop 18 bytes in
    let with : weighted_sum (covered (with_sum bytes x y)) ≡ weighted_sum front + length (x ∷ y ∷ back) * sum front + weighted_sum (x ∷ y ∷ back) = ap weighted_sum (parts bytes x y long) ∙ weighted_sum-append front (x ∷ y ∷ back) in
    let without : weighted_sum (covered (with_sum bytes 0 0)) ≡ weighted_sum front + length (0 ∷ 0 ∷ back) * sum front + weighted_sum (0 ∷ 0 ∷ back) = ap weighted_sum (parts bytes 0 0 long) ∙ weighted_sum-append front (0 ∷ 0 ∷ back) in
    omega (arith, with, without)

-- nothing is left
pub plain_end : (plain : ℕ) (rest : List ℕ) (total : ℕ) → length rest ≡ 0 → plain < 255 → (plain + sum rest) % 255 ≡ total → plain ≡ total
plain_end plain rest total none bound so_far =
    let e : (plain + sum []) % 255 ≡ total = ap (λ (l : List ℕ). (plain + sum l) % 255) (sym (nil_from_length rest none)) ∙ so_far in
    omega (arith, e)

pub weighted_end : (plain weighted : ℕ) (rest : List ℕ) (total : ℕ) → length rest ≡ 0 → weighted < 255 → (weighted + length rest * plain + weighted_sum rest) % 255 ≡ total → weighted ≡ total
weighted_end plain weighted rest total none bound so_far =
    let e : (weighted + length {A = ℕ} [] * plain + weighted_sum []) % 255 ≡ total = ap (λ (l : List ℕ). (weighted + length l * plain + weighted_sum l) % 255) (sym (nil_from_length rest none)) ∙ so_far in
    omega (arith, e)

front_is : (bytes : List ℕ) → drop 2 (take 16 bytes) ≡ take 14 (drop 2 bytes)
front_is [] = refl
front_is (a ∷ []) = refl
front_is (a ∷ b ∷ bytes) = refl

-- the two sums without the checksum, in three parts
pub plain_without : (bytes : List ℕ) → 20 ≤ length bytes → sum (covered (with_sum bytes 0 0)) ≡ sum (drop 2 (take 16 bytes)) + sum (drop 18 bytes)
plain_without bytes long =
    let without : sum (covered (with_sum bytes 0 0)) ≡ sum (drop 2 (take 16 bytes)) + sum (0 ∷ 0 ∷ drop 18 bytes) = ap sum (parts bytes 0 0 long) ∙ sum-append (drop 2 (take 16 bytes)) (0 ∷ 0 ∷ drop 18 bytes) in
    omega (arith, without, sum-cons 0 (0 ∷ drop 18 bytes), sum-cons 0 (drop 18 bytes))

pub weighted_without : (bytes : List ℕ) → 20 ≤ length bytes
    → weighted_sum (covered (with_sum bytes 0 0)) ≡ weighted_sum (drop 2 (take 16 bytes)) + (length (drop 18 bytes) + 2) * sum (drop 2 (take 16 bytes)) + weighted_sum (drop 18 bytes)
weighted_without bytes long =
    let without : weighted_sum (covered (with_sum bytes 0 0)) ≡ weighted_sum (drop 2 (take 16 bytes)) + length (0 ∷ 0 ∷ drop 18 bytes) * sum (drop 2 (take 16 bytes)) + weighted_sum (0 ∷ 0 ∷ drop 18 bytes) = ap weighted_sum (parts bytes 0 0 long) ∙ weighted_sum-append (drop 2 (take 16 bytes)) (0 ∷ 0 ∷ drop 18 bytes) in
    omega (arith, without)

-- the sums of the front, the two zeros and the back, reduced after each part
pub plain_joined : (bytes : List ℕ) (p q r : ℕ) → 20 ≤ length bytes → p ≡ sum (take 14 (drop 2 bytes)) % 255 → q ≡ p % 255 → r ≡ (q + sum (drop 18 bytes)) % 255
    → r ≡ sum (covered (with_sum bytes 0 0)) % 255
plain_joined bytes p q r long ep eq er =
    omega (arith, plain_without bytes long, ap sum (front_is bytes))

pub weighted_joined : (bytes : List ℕ) (p w q v r : ℕ) → 20 ≤ length bytes → p ≡ sum (take 14 (drop 2 bytes)) % 255 → w ≡ weighted_sum (take 14 (drop 2 bytes)) % 255
    → q ≡ p % 255 → v ≡ (w + 2 * p) % 255 → r ≡ (v + length (drop 18 bytes) * q + weighted_sum (drop 18 bytes)) % 255
    → r ≡ weighted_sum (covered (with_sum bytes 0 0)) % 255
weighted_joined bytes p w q v r long ep ew eq ev er =
    let s : ℕ = sum (take 14 (drop 2 bytes)) in
    let n : ℕ = length (drop 18 bytes) in
    let k : ℕ = s / 255 in
    let q-is : s ≡ 255 * k + q = omega arith in
    let times : n * s ≡ n * (255 * k + q) = ap (λ (x : ℕ). n * x) q-is in
    let front : n * sum (drop 2 (take 16 bytes)) ≡ n * s = ap (λ (x : List ℕ). n * sum x) (front_is bytes) in
    omega (arith, weighted_without bytes long, times, front, ap weighted_sum (front_is bytes), ap sum (front_is bytes))

-- the two bytes of the checksum
pub high_byte : (x y : ℕ) → y < 256 → (256 * x + y) / 256 ≡ x
high_byte x y h = omega arith

pub low_byte : (x y : ℕ) → y < 256 → (256 * x + y) % 256 ≡ y
low_byte x y h = omega arith

residue_bound : (n : ℕ) → residue n < 256
residue_bound n = omega arith

field_of : (bytes : List ℕ) (x y : ℕ) → 20 ≤ length bytes → sum_field (with_sum bytes x y) ≡ 256 * x + y
field_of bytes x y long =
    ap (λ (l : List ℕ). big_number 2 l) (drop_at (take 16 bytes) (x ∷ y ∷ drop 18 bytes) 16 (omega (arith, length-take 16 bytes))) ∙ omega arith

-- the checksum makes the bytes sound
pub sound_with : (bytes : List ℕ) (count plain weighted : ℕ) → 20 ≤ length bytes → count ≡ length bytes - 2 → plain ≡ sum (covered (with_sum bytes 0 0)) → weighted ≡ weighted_sum (covered (with_sum bytes 0 0))
    → IsSound (with_sum bytes (check_bytes count plain weighted / 256) (check_bytes count plain weighted % 256))
sound_with bytes count plain weighted long ec ep ew =
    let x = first_check count plain weighted in
    let y = second_check plain x in
    let m : ℕ = length (drop 18 bytes) in
    let places : count - 15 ≡ m + 1 = omega (arith, length-drop 18 bytes) in
    let j : ℕ = (plain + x + y) / 255 in
    let whole : plain + x + y ≡ 255 * j = omega (arith, plain_zero plain x) in
    let x-is : x ≡ residue ((m + 1) * plain + 254 * weighted) = ap (λ (k : ℕ). residue (k * plain + 254 * weighted)) places in
    let high : check_bytes count plain weighted / 256 ≡ x = high_byte x y (residue_bound (254 * (plain + x))) in
    let low : check_bytes count plain weighted % 256 ≡ y = low_byte x y (residue_bound (254 * (plain + x))) in
    let sound : IsSound (with_sum bytes x y) = record {
      plain = ap (λ (n : ℕ). n % 255) (sum_of_parts bytes x y long) ∙ (rw (← ep) (plain_zero plain x));
      weighted = ap (λ (n : ℕ). n % 255) (weighted_of_parts bytes x y long) ∙ (rw (← ew) (weighted_zero m plain weighted x y j whole x-is));
      present = λ e. absurd (omega (arith, e, field_of bytes x y long));
    } in
    rw (high, low) sound

-- ---- no other bytes do

residue_itself : (x : ℕ) → 0 < x → x < 256 → residue x ≡ x
residue_itself x low high = omega arith

residue_modulo : (x : ℕ) → residue x % 255 ≡ x % 255
residue_modulo x = omega arith

first_residue : (m p w x y j : ℕ) → p + x + y ≡ 255 * j → (w + (m + 2) * x + (m + 1) * y) % 255 ≡ 0 → x % 255 ≡ ((m + 1) * p + 254 * w) % 255
first_residue m p w x y j e turned =
    let times : (m + 1) * (p + x + y) ≡ (m + 1) * (255 * j) = ap (λ (n : ℕ). (m + 1) * n) e in
    omega (arith, times)

second_residue : (p x y : ℕ) → (p + x + y) % 255 ≡ 0 → y % 255 ≡ (254 * (p + residue x)) % 255
second_residue p x y whole = omega (arith, residue_modulo x)

-- bytes that make the bytes sound are the checksum's, a zero taken for 255
sums_alike : (bytes : List ℕ) (count plain weighted x y : ℕ) → 20 ≤ length bytes → count ≡ length bytes - 2 → plain ≡ sum (covered (with_sum bytes 0 0)) → weighted ≡ weighted_sum (covered (with_sum bytes 0 0))
    → IsSound (with_sum bytes x y) → 256 * residue x + residue y ≡ check_bytes count plain weighted
sums_alike bytes count plain weighted x y long ec ep ew sound =
    let m : ℕ = length (drop 18 bytes) in
    let places : m + 1 ≡ count - 15 = omega (arith, length-drop 18 bytes) in
    let whole : (plain + x + y) % 255 ≡ 0 = ap (λ (n : ℕ). (n + x + y) % 255) ep ∙ ap (λ (n : ℕ). n % 255) (sym (sum_of_parts bytes x y long)) ∙ sound.plain in
    let turned : (weighted + (m + 2) * x + (m + 1) * y) % 255 ≡ 0 = ap (λ (n : ℕ). (n + (m + 2) * x + (m + 1) * y) % 255) ew ∙ ap (λ (n : ℕ). n % 255) (sym (weighted_of_parts bytes x y long)) ∙ sound.weighted in
    let j : ℕ = (plain + x + y) / 255 in
    let total : plain + x + y ≡ 255 * j = omega (arith, whole) in
    let first : residue x ≡ first_check count plain weighted = residue_same _ _ (first_residue m plain weighted x y j total turned) ∙ ap (λ (k : ℕ). residue (k * plain + 254 * weighted)) places in
    let second : residue y ≡ second_check plain (first_check count plain weighted) = residue_same _ _ (second_residue plain x y whole) ∙ ap (λ (n : ℕ). second_check plain n) first in
    ap (λ (n : ℕ). 256 * n + residue y) first ∙ ap (λ (n : ℕ). 256 * first_check count plain weighted + n) second

pub only_with : (bytes : List ℕ) (count plain weighted : ℕ) → 20 ≤ length bytes → count ≡ length bytes - 2 → plain ≡ sum (covered (with_sum bytes 0 0)) → weighted ≡ weighted_sum (covered (with_sum bytes 0 0))
    → IsOnlySum bytes (check_bytes count plain weighted)
only_with bytes count plain weighted long ec ep ew x y x_low x_high y_low y_high sound =
    ap (λ (n : ℕ). 256 * n + y) (sym (residue_itself x x_low x_high)) ∙ ap (λ (n : ℕ). 256 * residue x + n) (sym (residue_itself y y_low y_high))
    ∙ sums_alike bytes count plain weighted x y long ec ep ew sound

times_alike : (k x z : ℕ) → x % 255 ≡ z % 255 → (k * x) % 255 ≡ (k * z) % 255
times_alike k x z e = sym (times_reduced k x) ∙ ap (λ (n : ℕ). ((k % 255) * n) % 255) e ∙ times_reduced k z

weighted_alike : (w m x y first second : ℕ) → x % 255 ≡ first % 255 → y % 255 ≡ second % 255 → (w + (m + 2) * first + (m + 1) * second) % 255 ≡ 0 → (w + (m + 2) * x + (m + 1) * y) % 255 ≡ 0
weighted_alike w m x y first second ex ey turned = omega (arith, turned, times_alike (m + 2) x first ex, times_alike (m + 1) y second ey)

two_bytes : (a b first second : ℕ) → b < 256 → second < 256 → 256 * a + b ≡ 256 * first + second → (a ≡ first) × (b ≡ second)
two_bytes a b first second low low' e = (omega arith, omega arith)

pub zeros_with : (bytes : List ℕ) (count plain weighted : ℕ) → 20 ≤ length bytes → count ≡ length bytes - 2 → plain ≡ sum (covered (with_sum bytes 0 0)) → weighted ≡ weighted_sum (covered (with_sum bytes 0 0))
    → IsSumUpToZeros bytes (check_bytes count plain weighted)
zeros_with bytes count plain weighted long ec ep ew x y x_high y_high =
    let first : ℕ = first_check count plain weighted in
    let second : ℕ = second_check plain first in
    let m : ℕ = length (drop 18 bytes) in
    let places : count - 15 ≡ m + 1 = omega (arith, length-drop 18 bytes) in
    let j : ℕ = (plain + first + second) / 255 in
    let whole : plain + first + second ≡ 255 * j = omega (arith, plain_zero plain first) in
    let first-is : first ≡ residue ((m + 1) * plain + 254 * weighted) = ap (λ (k : ℕ). residue (k * plain + 254 * weighted)) places in
    let turned : (weighted + (m + 2) * first + (m + 1) * second) % 255 ≡ 0 = weighted_zero m plain weighted first second j whole first-is in
    let sound : (256 * residue x + residue y ≡ check_bytes count plain weighted) × (256 * x + y ≢ 0) → IsSound (with_sum bytes x y) =
    λ fits. let both : (residue x ≡ first) × (residue y ≡ second) = two_bytes (residue x) (residue y) first second (residue_bound y) (residue_bound (254 * (plain + first))) fits.0 in
    let ex : x % 255 ≡ first % 255 = sym (residue_modulo x) ∙ ap (λ (n : ℕ). n % 255) both.0 in
    let ey : y % 255 ≡ second % 255 = sym (residue_modulo y) ∙ ap (λ (n : ℕ). n % 255) both.1 in
    let plainly : (plain + x + y) % 255 ≡ 0 = omega (arith, whole, ex, ey) in
    let weightily : (weighted + (m + 2) * x + (m + 1) * y) % 255 ≡ 0 = weighted_alike weighted m x y first second ex ey turned in
    record {
      plain = ap (λ (n : ℕ). n % 255) (sum_of_parts bytes x y long) ∙ (rw (← ep) plainly);
      weighted = ap (λ (n : ℕ). n % 255) (weighted_of_parts bytes x y long) ∙ (rw (← ew) weightily);
      present = λ e. fits.1 (sym (field_of bytes x y long) ∙ e);
    } in
    (λ is. (sums_alike bytes count plain weighted x y long ec ep ew is, λ e. is.present (field_of bytes x y long ∙ e)), sound)

-- what the code makes of the reduced sums
pub first_is : (n p w plain weighted first : ℕ) → p ≡ plain % 255 → w ≡ weighted % 255 → first ≡ residue ((n - 17) % 255 * p + 254 * w) → first ≡ first_check (n - 2) plain weighted
first_is n p w plain weighted first ep ew is =
    let places : n - 17 ≡ n - 2 - 15 = omega arith in
    is ∙ rw (ep, ew, places) (first_check_reduced (n - 2) plain weighted)

pub second_is : (p plain first x second : ℕ) → p ≡ plain % 255 → first ≡ x → second ≡ residue (254 * (p + first)) → second ≡ second_check plain x
second_is p plain first x second ep e is = is ∙ rw (ep, e) (second_check_reduced plain x)

pub value_is : (bytes : List ℕ) (value : ℕ) → 20 ≤ length bytes → value ≡ check_bytes (length bytes - 2) (sum (covered (with_sum bytes 0 0))) (weighted_sum (covered (with_sum bytes 0 0)))
    → Some value ≡ checksum_of bytes
unfolding checksum_of
value_is bytes value long e =
    let test : ltb (length bytes) 20 ≡ false = le-ltb _ _ long in
    rw (test, e) refl

-- the slice from a place on
pub from_place : (k : ℕ) (bytes : List ℕ) → take (length bytes - k) (drop k bytes) ≡ drop k bytes
from_place k bytes = take_all (length bytes - k) (drop k bytes) (omega (arith, length-drop k bytes))
