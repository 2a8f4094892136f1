-- The bytes of hexadecimal digits, a pair of digits after the other.
use Rattle.std.proofs.Common.{ℕ, ◌≡◌, ◌+◌, ◌*◌, ◌/◌, ◌%◌, ◌<◌, ◌≤◌, List, length, take, drop, slice_index, Option, Some, None, Result, Ok, Err, arith, refl, ap, sym, ◌∙◌}
use Rattle.hex.specs.Hex.{decode_pairs, digit_or_error, hex_digit_value, pair_value, value_at, ◌>>=◌}
use Rattle.hex.specs.declared.error.FromHexError.{FromHexError}
use Rattle.hex.proofs.HexLemmas.{decode_of-even}
use Rattle.hex.proofs.Pairs.{decode_done, decode_err, prepend}
use Rattle.std.specs.Result.{result_unwrap_or}
use Rattle.recording.specs.Reading.{bytes_of, bytes_or_none}

-- a digit that has a value
found_value : (digit place value : ℕ) (found : Option ℕ) → digit_or_error digit place found ≡ Ok value → found ≡ Some value
found_value digit place value (Some l) e = ap Some (ap (λ r. result_unwrap_or r 0) e)
found_value digit place value None e = cc e

-- a letter's value is 9 above that of its last four bits
known_value : (digit value : ℕ) → hex_digit_value digit ≡ Some value → (digit % 16 + digit / 64 * 9) % 16 ≡ value
known_value digit value e = grind (arith)

pub value_of_bits : (digit place value : ℕ) → value_at digit place ≡ Ok value → (digit % 16 + digit / 64 * 9) % 16 ≡ value
value_of_bits digit place value e = known_value digit value (found_value digit place value (hex_digit_value digit) e)

-- what two digits say, from what each says
parts : (high low place byte : ℕ) (first second : Option ℕ)
    → (digit_or_error high place first >>= (λ h. digit_or_error low (place + 1) second >>= (λ l. Ok (h * 16 + l)))) ≡ Ok byte
    → (h : ℕ) × (l : ℕ) × (digit_or_error high place first ≡ Ok h) × (digit_or_error low (place + 1) second ≡ Ok l) × (h * 16 + l ≡ byte)
parts high low place byte (Some h) (Some l) e = (h, l, refl, refl, ap (λ r. result_unwrap_or r 0) e)
parts high low place byte (Some h) None e = cc e
parts high low place byte None second e = cc e

pub both_digits : (high low place byte : ℕ) → pair_value high low place ≡ Ok byte
    → (h : ℕ) × (l : ℕ) × (value_at high place ≡ Ok h) × (value_at low (place + 1) ≡ Ok l) × (h * 16 + l ≡ byte)
both_digits high low place byte e = parts high low place byte (hex_digit_value high) (hex_digit_value low) e

-- where the whole decodes, so does the next pair
module _ (digits out bytes : List ℕ) (i : ℕ) (fits : 2 * i + 1 < length digits) (whole : decode_pairs 0 digits ≡ Ok bytes)
    (so_far : decode_pairs 0 digits ≡ prepend (take i out) (decode_pairs (2 * i) (drop (2 * i) digits))) where
  read : (found : Result ℕ FromHexError) → pair_value (slice_index digits (2 * i)) (slice_index digits (2 * i + 1)) (2 * i) ≡ found
      → (byte : ℕ) × (pair_value (slice_index digits (2 * i)) (slice_index digits (2 * i + 1)) (2 * i) ≡ Ok byte)
  read (Ok byte) e = (byte, e)
  read (Err why) e = cc (sym whole ∙ decode_err digits out i why fits e so_far)

  pub next_pair : (byte : ℕ) × (pair_value (slice_index digits (2 * i)) (slice_index digits (2 * i + 1)) (2 * i) ≡ Ok byte)
  next_pair = read (pair_value (slice_index digits (2 * i)) (slice_index digits (2 * i + 1)) (2 * i)) refl

pub all_pairs : (digits out : List ℕ) (i : ℕ) → length digits ≡ 2 * length out → length out ≤ i
    → decode_pairs 0 digits ≡ prepend (take i out) (decode_pairs (2 * i) (drop (2 * i) digits)) → out ≡ bytes_of digits
all_pairs digits out i twice past so_far =
    sym (ap bytes_or_none (decode_of-even digits (omega (arith, twice)) ∙ decode_done digits out i past (omega (arith, twice)) so_far))
