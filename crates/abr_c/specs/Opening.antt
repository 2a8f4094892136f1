-- The opening of a core from text.
use Rattle.std.specs.Prelude.{ℕ, ◌≡◌, ◌≤◌, ◌<◌, ◌⊎◌, List, [], length, drop, Option, Some, None}
use Rattle.std.specs.RandomState.{initial_hasher}
use Rattle.std.specs.declared.hash.RandomState.{RandomState}
use Rattle.core.specs.Hash.DefaultHasher.{finish, with_keys}
use Rattle.byteorder.specs.Endian.{little_number}
use Rattle.event_state.specs.declared.base.Base.{Base}
use Rattle.event_state.specs.Bases.{HasConfigOnly}
use Rattle.event_state.specs.Steps.{standard_limits}
use Rattle.event_core.specs.Cores.{CoreValue, IsCore, IsOpening}
use Rattle.recording.specs.declared.fault.LineFault.{LineFault}
use Rattle.recording.specs.declared.version.Version.{Version}
use Rattle.recording.specs.Faults.{IsFaultOf}
use Rattle.recording.specs.Recordings.{RecordingValue, IsText, recording_of}
use Rattle.abr_c.specs.Numbers.{fault_number, misplaced_line, out_of_memory, short_seed}

-- the text of a recording of this base without events
abbrev pub SaysBase : (text : List ℕ) → Base → Type 0
SaysBase text base = (v : Version) × IsText text (recording_of v base [])

-- and the base is a configuration only
abbrev pub SaysConfig : (text : List ℕ) → Base → Type 0
SaysConfig text base = SaysBase text base × HasConfigOnly base

-- the number of the first fault of the text; or the text is a recording with events
abbrev pub IsBaseRefusal : (text : List ℕ) → ℕ → Type 0
IsBaseRefusal text number =
    ((f : LineFault) × IsFaultOf text f × (number ≡ fault_number f.fault))
    ⊎ ((r : RecordingValue) × IsText text r × (¬ (r.lines ≡ [])) × (number ≡ misplaced_line))

-- or its base is more than a configuration
abbrev pub IsConfigRefusal : (text : List ℕ) → ℕ → Type 0
IsConfigRefusal text number = IsBaseRefusal text number ⊎ ((base : Base) × SaysBase text base × (¬ HasConfigOnly base) × (number ≡ misplaced_line))

-- the seed is too short, or memory ran out
abbrev pub IsSeedRefusal : (seed : List ℕ) → ℕ → Type 0
IsSeedRefusal seed number = ((length seed < 16) × (number ≡ short_seed)) ⊎ (number ≡ out_of_memory)

-- The empty text has the hash that SipHash gives it under two keys: the first 16 bytes of the seed,
-- eight bytes each, the lowest first.
abbrev pub HasSipKeysOf : (seed : List ℕ) → RandomState → Type 0
HasSipKeysOf seed state = finish (initial_hasher state) ≡ finish (with_keys (little_number 8 seed) (little_number 8 (drop 8 seed)))

-- the seed is long enough, the core has this base, and no event was taken; or there is no core, and
-- the number is the reason
abbrev pub OpensBase : Base → (seed : List ℕ) (number : ℕ) → Option CoreValue → Type 0
OpensBase base seed number (Some core) = (number ≡ 0) × (16 ≤ length seed) × IsCore core × IsOpening base standard_limits core
OpensBase base seed number None = IsSeedRefusal seed number

-- a base is said, and opens a core or none; or there is none, and the number is why
abbrev pub OpensCore : (Says : Base → Type 0) (IsRefusal : ℕ → Type 0) (seed : List ℕ) (number : ℕ) → Option CoreValue → Type 0
OpensCore Says IsRefusal seed number after =
    ((base : Base) × Says base × OpensBase base seed number after)
    ⊎ (IsRefusal number × (after ≡ None))
