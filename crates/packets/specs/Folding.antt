-- The sum of words as a plain number, and what it is in one's complement of 16 bits.
use Rattle.std.specs.Prelude.{ℕ, ◌+◌, ◌-◌, ◌%◌, ◌==◌, if◌then◌else◌, List, [], ◌∷◌, sum}
use Rattle.packets.specs.Checksum.{words}

-- the number from 1 to 65535 that the sum is modulo 65535; 0 only of zeros
abbrev pub folded : ℕ → ℕ
folded n = if n == 0 then 0 else (n - 1) % 65535 + 1

-- the plain sum of the words
abbrev pub word_sum : List ℕ → ℕ
word_sum bytes = sum (words bytes)

-- eight zeros, of which some are put after the last bytes
abbrev pub zeros : List ℕ
zeros = 0 ∷ 0 ∷ 0 ∷ 0 ∷ 0 ∷ 0 ∷ 0 ∷ 0 ∷ []
