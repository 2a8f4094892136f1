-- Units of time.
use Rattle.std.proofs.Common.{◌≡◌, ℕ, ◌*◌, ◌/◌, ◌^◌, ◌<◌, sym, arith, lit<}
use Rattle.std.proofs.lemmas.Nat.{pow_pos}
use Rattle.std.proofs.Math.Nat.{one-le-pow, div-eq_of_lt}
use Rattle.captures.specs.declared.time.Resolution.{Resolution}
use Rattle.captures.specs.declared.time.Resolution.TheVariants.{Decimal, Binary}
use Rattle.captures.specs.Times.{units_of}

pub units_pos : (resolution : Resolution) → 0 < units_of resolution
units_pos (Decimal power) = one-le-pow power 10 (lit< tt)
units_pos (Binary power) = pow_pos power

-- less than a unit is none
pub no_units : (units : ℕ) (resolution : Resolution) → units < 2 ^ 64 → (units_of resolution < 2 ^ 128 → ⊥) → 0 ≡ units * 1000000000 / units_of resolution
no_units units resolution fits large = sym (div-eq_of_lt (omega (arith, large)))
