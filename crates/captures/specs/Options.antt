-- Options, one after the other: a code, a length, and that number of bytes, padded to a multiple of
-- 4.
use Rattle.std.specs.Prelude.{ℕ, zero, suc, ◌+◌, ◌*◌, ◌/◌, ◌==◌, Bool, ◌&&◌, ◌||◌, nat_lt, nat_le, if◌then◌else◌, List, length, drop, slice_index, Result, Ok, Err}
use Rattle.captures.specs.declared.fault.FaultKind.{FaultKind}
use Rattle.captures.specs.declared.order.Order.{Order}
use Rattle.captures.specs.declared.time.Timing.{Timing}
use Rattle.captures.specs.declared.time.Resolution.TheVariants.{Decimal}
use Rattle.captures.specs.declared.time.Offset.TheVariants.{Later}
use Rattle.captures.specs.Numbers.{number_at}
use Rattle.captures.specs.Steps.{and_then}
use Rattle.captures.specs.Times.{resolution_of, offset_of}

abbrev pub padded : ℕ → ℕ
padded size = (size + 3) / 4 * 4

abbrev pub code_of : Order → List ℕ → ℕ
code_of order bytes = number_at order 2 0 bytes

abbrev pub length_of : Order → List ℕ → ℕ
length_of order bytes = number_at order 2 2 bytes

-- the size of the whole option
abbrev pub size_of : Order → List ℕ → ℕ
size_of order bytes = 4 + padded (length_of order bytes)

-- no option is left, or the one of code 0, which ends them
abbrev pub is_end : Order → List ℕ → Bool
is_end order bytes = (length bytes == 0) || (nat_le 4 (length bytes) && (code_of order bytes == 0))

-- the option goes past the end
abbrev pub is_cut : Order → List ℕ → Bool
is_cut order bytes = nat_lt (length bytes) 4 || nat_lt (length bytes) (size_of order bytes)

-- the timing after the first option: the resolution by code 9, of 1 byte, and the offset by code
-- 14, of 8 bytes
abbrev pub with_option : Order → List ℕ → Timing → Result Timing FaultKind
with_option order bytes timing =
    if code_of order bytes == 9 then (
    if length_of order bytes == 1 then Ok (record timing { resolution = resolution_of (slice_index bytes 4) }) else Err FaultKind.Options
    ) else (if code_of order bytes == 14 then (
    if length_of order bytes == 8 then Ok (record timing { offset = offset_of (number_at order 8 4 bytes) }) else Err FaultKind.Options
    ) else Ok timing)

-- the timing after all options, of which there are no more than the given number
unfoldable pub with_options : Order → ℕ → List ℕ → Timing → Result Timing FaultKind
with_options order zero bytes timing = Ok timing
with_options order (suc n) bytes timing =
    if is_end order bytes then Ok timing
    else (if is_cut order bytes then Err FaultKind.Options
    else and_then (with_option order bytes timing) (λ further. with_options order n (drop (size_of order bytes) bytes) further))

-- microseconds since 1970
abbrev pub usual_timing : Timing
usual_timing = record { resolution = Decimal 6; offset = Later 0 }

-- the timing that options give: the last option counts if one occurs twice
abbrev pub timing_of : Order → List ℕ → Result Timing FaultKind
timing_of order bytes = with_options order (length bytes) bytes usual_timing
