-- Options as they are written.
use Rattle.std.specs.Prelude.{ℕ, ◌≡◌, ◌≢◌, ◌+◌, ◌==◌, ◌^◌, ◌<◌, ◌⊎◌, if◌then◌else◌, List, [], ◌∷◌, ◌++◌, length, slice_index}
use Rattle.std.specs.List.{flat_map}
use Rattle.captures.specs.declared.order.Order.{Order}
use Rattle.captures.specs.declared.time.Timing.{Timing}
use Rattle.captures.specs.Numbers.{number_of}
use Rattle.captures.specs.Options.{padded}
use Rattle.captures.specs.Times.{resolution_of, offset_of}
use Rattle.captures.specs.Writing.{number_bytes}

-- an option, with what fills it up to a multiple of 4 bytes
pub record WrittenOption : Type 0 where
  pub code : ℕ
  pub value : List ℕ
  pub filling : List ℕ

abbrev pub setting_bytes : Order → WrittenOption → List ℕ
setting_bytes order s = number_bytes order 2 s.code ++ number_bytes order 2 (length s.value) ++ s.value ++ s.filling

-- code 0 is the code of the end
pub record IsLegalSetting (s : WrittenOption) : Type 0 where
  pub code : s.code < 2 ^ 16
  pub further : s.code ≢ 0
  pub value : length s.value < 2 ^ 16
  pub filled : length s.value + length s.filling ≡ padded (length s.value)
  pub resolution : s.code ≡ 9 → length s.value ≡ 1
  pub offset : s.code ≡ 14 → length s.value ≡ 8

abbrev pub settings_bytes : Order → List WrittenOption → List ℕ
settings_bytes order settings = flat_map (setting_bytes order) settings

-- after the options there is nothing, or the one of code 0 and length 0, and then anything
abbrev pub IsEnd : List ℕ → Type 0
IsEnd bytes = (bytes ≡ []) ⊎ ((more : List ℕ) × (bytes ≡ 0 ∷ 0 ∷ 0 ∷ 0 ∷ more))

-- the timing with what an option says of it
abbrev pub told : Order → WrittenOption → Timing → Timing
told order s timing =
    if s.code == 9 then record timing { resolution = resolution_of (slice_index s.value 0) }
    else (if s.code == 14 then record timing { offset = offset_of (number_of order 8 s.value) } else timing)

-- with what all of them say, one after the other
abbrev pub told_by : Order → List WrittenOption → Timing → Timing
told_by order [] timing = timing
told_by order (s ∷ settings) timing = told_by order settings (told order s timing)
