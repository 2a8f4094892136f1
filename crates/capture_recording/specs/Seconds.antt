-- The number of seconds between two packets that are recorded.
use Rattle.std.specs.Prelude.{ℕ, min}
use Rattle.ospf_types.specs.Lsa.{MaxAge}

-- no more than make each LSA old (RFC 2328, 14)
abbrev pub recorded_of : ℕ → ℕ
recorded_of seconds = min seconds MaxAge
