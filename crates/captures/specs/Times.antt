-- The times of packets.
use Rattle.std.specs.Prelude.{ℕ, ◌+◌, ◌-◌, ◌*◌, ◌/◌, ◌^◌, nat_lt, if◌then◌else◌, Option, None, Some, option_and_then}
use Rattle.captures.specs.declared.time.Resolution.{Resolution}
use Rattle.captures.specs.declared.time.Resolution.TheVariants.{Decimal, Binary}
use Rattle.captures.specs.declared.time.Offset.{Offset}
use Rattle.captures.specs.declared.time.Offset.TheVariants.{Later, Earlier}
use Rattle.captures.specs.declared.time.Timing.{Timing}

-- the number of units in a second
abbrev pub units_of : Resolution → ℕ
units_of (Decimal power) = 10 ^ power
units_of (Binary power) = 2 ^ power

-- the byte of the option: the highest bit clear for a power of ten, set for one of two
abbrev pub resolution_of : ℕ → Resolution
resolution_of byte = if nat_lt byte 128 then Decimal byte else Binary (byte - 128)

-- the number of the option, in two's complement
abbrev pub offset_of : ℕ → Offset
offset_of number = if nat_lt number (2 ^ 63) then Later number else Earlier (2 ^ 64 - number)

-- with the seconds added, unless that is before 1970
abbrev pub moved_by : Offset → ℕ → Option ℕ
moved_by (Later seconds) nanoseconds = Some (nanoseconds + seconds * 1000000000)
moved_by (Earlier seconds) nanoseconds =
    if nat_lt nanoseconds (seconds * 1000000000) then None else Some (nanoseconds - seconds * 1000000000)

-- a number that fits into 64 bits
abbrev pub held : ℕ → Option ℕ
held number = if nat_lt number (2 ^ 64) then Some number else None

-- a time in units, in whole nanoseconds since 1970
abbrev pub time_of : Timing → ℕ → Option ℕ
time_of timing units =
    option_and_then held (moved_by timing.offset (units * 1000000000 / units_of timing.resolution))
