-- Which of two values is chosen by a test of two parts.
use Rattle.std.proofs.Common.{◌≡◌, ◌⊎◌, inl, inr, Bool, true, false, not, ◌&&◌, ◌||◌, refl}
use Rattle.std.specs.Prelude.{if◌then◌else◌}

pub either_left : {X : Type 0} (a b : Bool) (x y : X) → a ≡ true → x ≡ (if a || b then x else y)
either_left true b x y e = refl
either_left false b x y e = absurd cc

pub either_right : {X : Type 0} (a b : Bool) (x y : X) → b ≡ true → x ≡ (if a || b then x else y)
either_right true b x y e = refl
either_right false true x y e = refl
either_right false false x y e = absurd cc

pub neither : {X : Type 0} (a b : Bool) (x y : X) → a ≡ false → b ≡ false → y ≡ (if a || b then x else y)
neither true b x y e f = absurd cc
neither false true x y e f = absurd cc
neither false false x y e f = refl

pub not_first : {X : Type 0} (a b : Bool) (x y : X) → a ≡ true → y ≡ (if not a && b then x else y)
not_first true b x y e = refl
not_first false b x y e = absurd cc

pub not_second : {X : Type 0} (a b : Bool) (x y : X) → b ≡ false → y ≡ (if not a && b then x else y)
not_second true b x y e = refl
not_second false true x y e = absurd cc
not_second false false x y e = refl

pub both : {X : Type 0} (a b : Bool) (x y : X) → a ≡ false → b ≡ true → x ≡ (if not a && b then x else y)
both true b x y e f = absurd cc
both false true x y e f = refl
both false false x y e f = absurd cc

pub or_false : (a b : Bool) → (a || b) ≡ false → (a ≡ false) × (b ≡ false)
or_false true b e = absurd cc
or_false false b e = (refl, e)

pub true_not_false : {b : Bool} → b ≡ true → b ≡ false → ⊥
true_not_false {b = true} e f = cc
true_not_false {b = false} e f = cc

pub or_left : (a b : Bool) → a ≡ true → (a || b) ≡ true
or_left true b e = refl
or_left false b e = absurd cc

pub or_right : (a b : Bool) → b ≡ true → (a || b) ≡ true
or_right true b e = refl
or_right false b e = e

pub or_cases : (a b : Bool) → (a || b) ≡ true → (a ≡ true) ⊎ (b ≡ true)
or_cases true b e = inl refl
or_cases false b e = inr e

pub and_false : (a b : Bool) → b ≡ false → (a && b) ≡ false
and_false true b e = e
and_false false b e = refl

pub and_true : (a b : Bool) → (a && b) ≡ true → (a ≡ true) × (b ≡ true)
and_true true b e = (refl, e)
and_true false b e = absurd cc

pub neither_is : (a b : Bool) → a ≡ false → b ≡ false → (a || b) ≡ false
neither_is true b e f = absurd cc
neither_is false b e f = f
