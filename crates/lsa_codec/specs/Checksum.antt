-- The Fletcher checksum (RFC 2328, 12.1.7). It covers all bytes but the first two, the LS age.
use Rattle.std.specs.Prelude.{◌≡◌, ◌≢◌, ◌↔◌, ℕ, suc, ◌<◌, ◌+◌, ◌*◌, ◌-◌, ◌%◌, ◌==◌, Bool, ◌&&◌, not, nat_lt, if◌then◌else◌, List, [], ◌∷◌, ◌++◌, length, take, drop, sum, Option, Some, None}
use Rattle.byteorder.specs.Endian.{big_number}

-- each byte times its place from the end, the last byte once
abbrev pub weighted_sum : List ℕ → ℕ
weighted_sum [] = 0
weighted_sum (b ∷ bytes) = suc (length bytes) * b + weighted_sum bytes

abbrev pub covered : List ℕ → List ℕ
covered bytes = drop 2 bytes

abbrev pub sum_field : List ℕ → ℕ
sum_field bytes = big_number 2 (drop 16 bytes)

-- both sums are 0 modulo 255, and there is a checksum
pub record IsSound (bytes : List ℕ) : Type 0 where
  pub plain : sum (covered bytes) % 255 ≡ 0
  pub weighted : weighted_sum (covered bytes) % 255 ≡ 0
  pub present : sum_field bytes ≢ 0

-- the test of IsSound
abbrev pub is_sound : List ℕ → Bool
is_sound bytes = (sum (covered bytes) % 255 == 0) && (weighted_sum (covered bytes) % 255 == 0) && not (sum_field bytes == 0)

-- the bytes with x and y in place of the checksum
abbrev pub with_sum : List ℕ → ℕ → ℕ → List ℕ
with_sum bytes x y = take 16 bytes ++ x ∷ y ∷ drop 18 bytes

-- No other two bytes that are not zero make the bytes sound in place of the checksum.
abbrev pub IsOnlySum : List ℕ → ℕ → Type 0
IsOnlySum bytes sum = (x y : ℕ) → 0 < x → x < 256 → 0 < y → y < 256 → IsSound (with_sum bytes x y) → 256 * x + y ≡ sum

-- the one number from 1 to 255 that is n modulo 255
abbrev pub residue : ℕ → ℕ
residue n = (n + 254) % 255 + 1

-- Two bytes make the bytes sound in place of the checksum exactly if they are its own, a zero taken
-- for 255, and one of them is not zero.
abbrev pub IsSumUpToZeros : List ℕ → ℕ → Type 0
IsSumUpToZeros bytes sum = (x y : ℕ) → x < 256 → y < 256 → IsSound (with_sum bytes x y) ↔ ((256 * residue x + residue y ≡ sum) × (256 * x + y ≢ 0))

-- The two check bytes for sums plain and weighted over count bytes, where 254 stands for -1: the
-- first is (count - 15) * plain - weighted, and the second - plain - first.
abbrev pub first_check : ℕ → ℕ → ℕ → ℕ
first_check count plain weighted = residue ((count - 15) * plain + 254 * weighted)

abbrev pub second_check : ℕ → ℕ → ℕ
second_check plain first = residue (254 * (plain + first))

abbrev pub check_bytes : ℕ → ℕ → ℕ → ℕ
check_bytes count plain weighted =
    256 * first_check count plain weighted + second_check plain (first_check count plain weighted)

-- the checksum of the bytes, those in its own place taken as zero
unfoldable pub checksum_of : List ℕ → Option ℕ
checksum_of bytes =
    if nat_lt (length bytes) 20 then None else Some (check_bytes (length bytes - 2) (sum (covered (with_sum bytes 0 0))) (weighted_sum (covered (with_sum bytes 0 0))))
