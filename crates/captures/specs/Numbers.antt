-- Numbers in either byte order.
use Rattle.std.specs.Prelude.{ℕ, List, drop}
use Rattle.byteorder.specs.Endian.{big_number, little_number}
use Rattle.captures.specs.declared.order.Order.{Order}
use Rattle.captures.specs.declared.order.Order.TheVariants.{Big, Little}

-- the number in the first `size` bytes
abbrev pub number_of : Order → ℕ → List ℕ → ℕ
number_of Big size bytes = big_number size bytes
number_of Little size bytes = little_number size bytes

-- the number in `size` bytes at a place
abbrev pub number_at : Order → ℕ → ℕ → List ℕ → ℕ
number_at order size place bytes = number_of order size (drop place bytes)
