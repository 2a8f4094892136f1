-- Decimal digits and the numbers that they write, and the hexadecimal digits of bytes.
use Rattle.std.proofs.Common.{ℕ, ◌≡◌, ◌≢◌, ◌+◌, ◌-◌, ◌*◌, ◌/◌, ◌%◌, ◌^◌, ◌<◌, ◌≤◌, ◌==◌, ◌&&◌, ◌↔◌, IsTrue, Bool, true, false, cond, ltb, List, [], ◌∷◌, All, decimal, length, get_or, get_or-take, take, Option, Some, None, MatchOption, inl, inr, arith, refl, ap, sym, subst, ◌∙◌}
use Rattle.std.proofs.lemmas.Bool.{agree_below_at, cases_eq, cases_lt, eqb-true}
use Rattle.std.proofs.lemmas.Bool.Decides.{nat_tests}
use Rattle.std.proofs.lemmas.Int.Digits.{digits_value_more}
use Rattle.std.proofs.lemmas.Fmt.{decimal_is_IsNumeral, decimal_nonempty, decimal_digit, first_decimal, decimal-digits_value}
use Rattle.std.proofs.lemmas.Str.Parse.{digits_value-take-le, numerals_by_value, tells_digits}
use Rattle.std.proofs.lemmas.List.{length-take, take-take}
use Rattle.std.proofs.lemmas.List.Elements.{All-nil, All-cons, All-head, All-tail, All-more, All-take}
use Rattle.std.proofs.lemmas.List.Splits.{join_with_byte-slice_split, slice_split_none}
use Rattle.hex.proofs.HexLemmas.{length-encode_with}
use Rattle.std.specs.Char.{digit_value, digit_char}
use Rattle.std.specs.List.{join_with_byte}
use Rattle.std.specs.Str.Parse.{AllDigits, digits_value}
use Rattle.hex.specs.Hex.{encode_lower, encode_with, lower_digits}
use Rattle.recording.specs.Forms.{AreBytes, IsSerial}
use Rattle.recording.specs.Reading.{cut, AreHexDigits, IsLowerDigit, IsRead, IsUnpadded}

-- what the first digits write, and one more of them, is no more than what all do
pub digits_large : (word : List ℕ) (i value : ℕ) → i < length word → value ≡ digits_value 10 (take i word) → value * 10 + digit_value (get_or word i 0) ≤ digits_value 10 word
digits_large word i value within is =
    let more = digits_value_more 10 word i within in
    let all : digits_value 10 (take (i + 1) word) ≤ digits_value 10 word = digits_value-take-le 10 word (i + 1) (omega arith) in
    omega (arith, more, all, is)

-- ten times the first digits, or that and one digit more, do not fit: so the whole number does not
pub past_tens : (word : List ℕ) (i value : ℕ) → i < length word → value ≡ digits_value 10 (take i word) → ¬ (value * 10 < 2 ^ 64) → 2 ^ 64 ≤ digits_value 10 word
past_tens word i value within is past =
    let all = digits_large word i value within is in
    elim (cases_lt (value * 10) (2 ^ 64)) [ inl below ↦ absurd (past below) | inr above ↦ omega (arith, all, above) ]

pub past_digit : (word : List ℕ) (i value tens digit : ℕ) → i < length word → value ≡ digits_value 10 (take i word) → tens ≡ value * 10 → digit ≡ digit_value (get_or word i 0) → ¬ (tens + digit < 2 ^ 64) → 2 ^ 64 ≤ digits_value 10 word
past_digit word i value tens digit within is ten one past =
    let all = digits_large word i value within is in
    elim (cases_lt (tens + digit) (2 ^ 64)) [ inl below ↦ absurd (past below) | inr above ↦ omega (arith, all, above, ten, one) ]

pub digit_value_is : (b : ℕ) → 48 ≤ b → b ≤ 57 → digit_value b ≡ b - 48
digit_value_is b low high = grind (arith, nat_tests)

-- a number has no zero in front
pub unpadded_decimal : (n : ℕ) → n < 2 ^ 64 → IsUnpadded (decimal n)
unpadded_decimal n fits = record {
  some = decimal_nonempty n (omega arith);
  alone = λ zero. elim (cases_eq n 0) [
    | inl is ↦ ap (λ m. length (decimal m)) is ∙ ap length (decimal_digit 0 (omega arith))
    | inr some ↦ let first = first_decimal n (omega arith) (omega arith) in omega arith
  ];
}

pub decimal_digits : (n : ℕ) → n < 2 ^ 64 → AllDigits 10 (decimal n)
decimal_digits n fits = (decimal_is_IsNumeral n (omega arith)).0.1

pub decimal_value : (n : ℕ) → n < 2 ^ 64 → digits_value 10 (decimal n) ≡ n
decimal_value n fits = (decimal_is_IsNumeral n (omega arith)).1

-- digits without a zero in front spell their number
pub unpadded_is : (word : List ℕ) → IsUnpadded word → AllDigits 10 word → digits_value 10 word < 2 ^ 64 → word ≡ decimal (digits_value 10 word)
unpadded_is word h digits small = sym (decimal-digits_value (numerals_by_value _ tells_digits) word digits h.some h.alone (omega arith))

-- what was read of digits without a zero in front is the number that they spell
pub serial_read : (word : List ℕ) (read : Option ℕ) → IsUnpadded word → MatchOption read (AllDigits 10 word → 2 ^ 64 ≤ digits_value 10 word) (λ n. AllDigits 10 word × (n ≡ digits_value 10 word) × IsSerial n) → IsRead decimal IsSerial word read
serial_read word None plain none = λ n small same.
    let digits : AllDigits 10 word = rw same (decimal_digits n small) in
    let is : digits_value 10 word ≡ n = rw same (decimal_value n small) in
    omega (arith, none digits, is)
serial_read word (Some n) plain some =
    let small : digits_value 10 word < 2 ^ 64 = omega (arith, some.1, some.2) in
    (some.2, unpadded_is word plain some.0 small ∙ ap decimal (sym some.1))

-- ---- hexadecimal digits

-- the digit of the table at each place
table_is : ℕ → Bool
table_is d = get_or lower_digits d 0 == digit_char d

lower_digit : (d : ℕ) → d < 16 → get_or lower_digits d 0 ≡ digit_char d
unfolding table_is
lower_digit d small = eqb-true _ _ (agree_below_at table_is (λ _. true) 16 d refl small)

-- a digit's value
pub value_of : ℕ → ℕ
value_of b = cond (ltb b 58) (b - 48) (b - 87)

value_small : (b : ℕ) → IsLowerDigit b → value_of b < 16
unfolding value_of
value_small b h = grind (arith, nat_tests)

digit_again : (b : ℕ) → IsLowerDigit b → get_or lower_digits (value_of b) 0 ≡ b
unfolding value_of
digit_again b h = rw (lower_digit (value_of b) (value_small b h)) (grind (arith, nat_tests))

-- the bytes of pairs of digits
pub bytes_of_pairs : List ℕ → List ℕ
bytes_of_pairs [] = []
bytes_of_pairs (digit ∷ []) = []
bytes_of_pairs (high ∷ low ∷ rest) = (value_of high * 16 + value_of low) ∷ bytes_of_pairs rest

pub pairs_spelled : (word : List ℕ) → length word % 2 ≡ 0 → All IsLowerDigit word → word ≡ encode_lower (bytes_of_pairs word)
unfolding encode_with bytes_of_pairs
pairs_spelled [] even h = refl
pairs_spelled (digit ∷ []) even h = absurd (omega arith)
pairs_spelled (high ∷ low ∷ rest) even h =
    let is_high = All-head IsLowerDigit high (low ∷ rest) h in
    let tail = All-tail IsLowerDigit high (low ∷ rest) h in
    let is_low = All-head IsLowerDigit low rest tail in
    let small = value_small low is_low in
    let first : (value_of high * 16 + value_of low) / 16 ≡ value_of high = omega arith in
    let second : (value_of high * 16 + value_of low) % 16 ≡ value_of low = omega arith in
    rw (first, second, digit_again high is_high, digit_again low is_low) (ap (λ digits. high ∷ low ∷ digits) (pairs_spelled rest (omega arith) (All-tail IsLowerDigit low rest tail)))

pub pairs_small : (word : List ℕ) → All IsLowerDigit word → All (λ b. b < 2 ^ 8) (bytes_of_pairs word)
unfolding bytes_of_pairs
pairs_small [] h = All-nil (λ b. b < 2 ^ 8)
pairs_small (digit ∷ []) h = All-nil (λ b. b < 2 ^ 8)
pairs_small (high ∷ low ∷ rest) h =
    let tail = All-tail IsLowerDigit high (low ∷ rest) h in
    let is_high = value_small high (All-head IsLowerDigit high (low ∷ rest) h) in
    let is_low = value_small low (All-head IsLowerDigit low rest tail) in
    All-cons (λ b. b < 2 ^ 8) _ (bytes_of_pairs rest) (omega arith) (pairs_small rest (All-tail IsLowerDigit low rest tail))

table_lower : (d : ℕ) → d < 16 → IsLowerDigit (get_or lower_digits d 0)
table_lower d small = rw (lower_digit d small) (grind (arith, nat_tests))

pub encode_digits : (bytes : List ℕ) → All (λ b. b < 2 ^ 8) bytes → All IsLowerDigit (encode_lower bytes)
unfolding encode_with
encode_digits [] h = All-nil IsLowerDigit
encode_digits (b ∷ bytes) h =
    let small : b < 2 ^ 8 = All-head (λ c. c < 2 ^ 8) b bytes h in
    All-cons IsLowerDigit _ (get_or lower_digits (b % 16) 0 ∷ encode_lower bytes) (table_lower (b / 16) (omega arith))
    (All-cons IsLowerDigit _ (encode_lower bytes) (table_lower (b % 16) (omega arith)) (encode_digits bytes (All-tail (λ c. c < 2 ^ 8) b bytes h)))

pub encode_even : (bytes : List ℕ) → length (encode_lower bytes) % 2 ≡ 0
encode_even bytes = let twice = length-encode_with lower_digits bytes in omega (arith, twice)

-- bytes are written with an even number of digits, all in lower case
pub digits_there : (word : List ℕ) → length word % 2 ≡ 0 → All IsLowerDigit word → AreHexDigits word
digits_there word even h = (bytes_of_pairs word, pairs_small word h, pairs_spelled word even h)

pub digits_lower : (word : List ℕ) → AreHexDigits word → All IsLowerDigit word
digits_lower word h = rw h.2 (encode_digits h.0 h.1)

pub digits_even : (word : List ℕ) → AreHexDigits word → length word % 2 ≡ 0
digits_even word h = rw h.2 (encode_even h.0)

-- ---- a test of each

fewer : (P : ℕ → Type 0) (xs : List ℕ) (i : ℕ) → All P (take (i + 1) xs) → All P (take i xs)
fewer P xs i all = rw (← take-take i (i + 1) xs (omega arith)) (All-take P i (take (i + 1) xs) all)

last : (P : ℕ → Type 0) (xs : List ℕ) (i d : ℕ) → i < length xs → All P (take (i + 1) xs) → P (get_or xs i d)
last P xs i d lt all = subst P (get_or-take (i + 1) xs i d (omega arith)) (all i d (omega (arith, lt, length-take (i + 1) xs)))

-- all of the first ones and one more
pub one_tested : (P : ℕ → Type 0) (xs : List ℕ) (i d : ℕ) (before now : Bool) → i < length xs → IsTrue before ↔ All P (take i xs) → IsTrue now ↔ P (get_or xs i d)
    → IsTrue (before && now) ↔ All P (take (i + 1) xs)
one_tested P xs i d false now lt so_far this = (λ e. cc e, λ all. so_far.1 (fewer P xs i all))
one_tested P xs i d true now lt so_far this = (λ e. All-more P xs i d lt (so_far.0 refl) (this.0 e), λ all. this.1 (last P xs i d lt all))

-- ---- digits with no space between

not_space : (b : ℕ) → IsLowerDigit b → (b == 32) ≡ false
not_space b h = grind (arith, nat_tests)

pub digits_alone : (text : List ℕ) → AreHexDigits text → cut text ≡ text ∷ []
digits_alone text h = slice_split_none (λ b. b == 32) text (λ i d below. not_space (get_or text i d) (digits_lower text h i d below))

pub not_digits : (text : List ℕ) → (AreHexDigits text → ⊥) → (bytes : List ℕ) → AreBytes bytes → cut text ≢ encode_lower bytes ∷ []
not_digits text none bytes small same = none (bytes, small, sym (join_with_byte-slice_split 32 text) ∙ ap (join_with_byte 32) same)
