-- The parts of a test, from its result.
use Rattle.std.proofs.Common.{◌≡◌, Bool, true, false, ◌||◌, ◌&&◌, not, refl, inl, inr}
use Rattle.std.specs.Prelude.{◌⊎◌}

pub or_left : (a b : Bool) → (a || b) ≡ false → a ≡ false
or_left true b e = absurd cc
or_left false b e = refl

pub or_right : (a b : Bool) → (a || b) ≡ false → b ≡ false
or_right true b e = absurd cc
or_right false b e = e

pub or_of : (a b : Bool) → a ≡ false → b ≡ false → (a || b) ≡ false
or_of true b e f = absurd cc
or_of false b e f = f

pub and_left : (a b : Bool) → (a && b) ≡ true → a ≡ true
and_left true b e = refl
and_left false b e = absurd cc

pub and_right : (a b : Bool) → (a && b) ≡ true → b ≡ true
and_right true b e = e
and_right false b e = absurd cc

pub and_of : (a b : Bool) → a ≡ true → b ≡ true → (a && b) ≡ true
and_of true b e f = f
and_of false b e f = absurd cc

pub and_not : (a b : Bool) → a ≡ true → (a && b) ≡ false → b ≡ false
and_not true b e f = f
and_not false b e f = absurd cc

pub and_zero : (a b : Bool) → b ≡ false → (a && b) ≡ false
and_zero true b e = e
and_zero false b e = refl

pub not_false : (b : Bool) → not b ≡ false → b ≡ true
not_false true e = refl
not_false false e = absurd cc

pub not_true : (b : Bool) → not b ≡ true → b ≡ false
not_true true e = absurd cc
not_true false e = refl

pub bool_cases : (b : Bool) → (b ≡ true) ⊎ (b ≡ false)
bool_cases true = inl refl
bool_cases false = inr refl
