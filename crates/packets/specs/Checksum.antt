-- The Internet checksum (RFC 1071).
use Rattle.std.specs.Prelude.{ℕ, ◌≡◌, ◌⊎◌, ◌+◌, ◌*◌, ◌-◌, ◌/◌, ◌%◌, ◌^◌, List, [], ◌∷◌}

-- the words of 16 bits that the bytes are, the high byte of each first; an odd last byte has a zero
-- after it
abbrev pub words : List ℕ → List ℕ
words [] = []
words (high ∷ []) = 256 * high ∷ []
words (high ∷ low ∷ bytes) = (256 * high + low) ∷ words bytes

-- one's complement addition of 16 bits: a carry out of the highest bit is added at the lowest
abbrev pub ones_add : ℕ → ℕ → ℕ
ones_add x y = (x + y) % 2 ^ 16 + (x + y) / 2 ^ 16

-- the one's complement sum of words
abbrev pub ones_sum : List ℕ → ℕ
ones_sum [] = 0
ones_sum (word ∷ words) = ones_add word (ones_sum words)

-- the complement of the sum
abbrev pub checksum_of : List ℕ → ℕ
checksum_of bytes = 65535 - ones_sum (words bytes)

-- one's complement has two zeros, of zeros and of ones
abbrev pub IsLikeWord : ℕ → ℕ → Type 0
IsLikeWord word other = (word ≡ other) ⊎ ((word ≡ 65535) × (other ≡ 0))
