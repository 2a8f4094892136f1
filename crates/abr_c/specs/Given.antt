-- The results that a call writes for C.
use Rattle.std.specs.Prelude.{◌≡◌, ◌++◌, Bool, true, false, if◌then◌else◌, Option, Some, None, List, length, take, drop, nat_le}

-- if there is one, it is written and the result is true; else nothing is written
abbrev pub IsOutputGiven : {X : Type 0} → Option X → (told : Bool) → (before after : X) → Type 0
IsOutputGiven (Some x) told before after = (told ≡ true) × (after ≡ x)
IsOutputGiven None told before after = (told ≡ false) × (after ≡ before)

-- the bytes are written at the beginning if there is room for all of them; otherwise nothing is
-- written
abbrev pub written : {X : Type 0} → (bytes before : List X) → List X
written bytes before = if nat_le (length bytes) (length before) then bytes ++ drop (length bytes) before else before

-- as many as there is room for are written at the beginning; what follows them is unchanged
abbrev pub copied : {X : Type 0} → (given before : List X) → List X
copied given before = take (length before) given ++ drop (length given) before
