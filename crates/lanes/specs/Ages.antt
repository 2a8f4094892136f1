-- Ages of LSAs in seconds (RFC 2328, 14).
use Rattle.std.specs.Prelude.{ℕ, ◌+◌, ◌==◌, Bool, min}

abbrev pub MaxAge : ℕ
MaxAge = 3600

-- a second later: no age passes MaxAge
abbrev pub next_age : ℕ → ℕ
next_age age = min (age + 1) MaxAge

-- an age that a second brings to MaxAge
abbrev pub comes_to_max_age : ℕ → Bool
comes_to_max_age age = age + 1 == MaxAge
