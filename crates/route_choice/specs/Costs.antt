-- The bound of the cost of an intra-area entry.
use Rattle.std.specs.Prelude.{ℕ}

-- the cost of an intra-area entry is below this, 2^31 - 2^24: with a metric of 24 bits it stays
-- below 2^31
abbrev pub most_cost : ℕ
most_cost = 2130706432
