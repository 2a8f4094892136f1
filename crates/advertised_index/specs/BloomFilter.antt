-- IndexFilter sets of numbers.
use Rattle.std.specs.Prelude.{ℕ, ◌≡◌, ◌%◌, true, false, get_or}
use Rattle.ospf_types.specs.Words.{mixed}
use Rattle.advertised_index.specs.declared.bloom_filter.BloomFilter.{BloomFilter}

-- the place that the number shares with others
abbrev pub place_of : BloomFilter → ℕ → ℕ
place_of m n = mixed m.hashing.multiplier m.hashing.start n % 4096

-- the place of the number is marked
abbrev pub IsMarked : BloomFilter → ℕ → Type 0
IsMarked m n = get_or m.marks.items (place_of m n) false ≡ true
