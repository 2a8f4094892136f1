-- The form in which a line is returned, however long it is.
use Rattle.std.specs.Prelude.{ℕ, Bool, ◌%◌, ◌==◌, ◌&&◌, ◌||◌, nat_le, List, [], ◌∷◌, ◌++◌, length, take, drop, if◌then◌else◌}
use Rattle.std.specs.List.{list_all}
use Rattle.input_reading.specs.declared.line.TheConstants.{LONGEST}

-- a hexadecimal digit, in lower case
abbrev pub is_hexadecimal : ℕ → Bool
is_hexadecimal byte = (nat_le 48 byte && nat_le byte 57) || (nat_le 97 byte && nat_le byte 102)

abbrev pub is_odd_number : ℕ → Bool
is_odd_number n = n % 2 == 1

-- the mark of bytes that are left out: nothing if they are hexadecimal digits and their number is
-- even, `0` if they are such digits and their number is odd, and `?` if another byte is among them
abbrev pub mark_of : List ℕ → List ℕ
mark_of bytes = if list_all is_hexadecimal bytes then (if is_odd_number (length bytes) then 48 ∷ [] else []) else 63 ∷ []

-- a line without its bytes past the longest length; a line that is not longer is unchanged
abbrev pub shortened : List ℕ → List ℕ
shortened raw = take LONGEST raw ++ mark_of (drop LONGEST raw)
