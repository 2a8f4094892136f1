-- The events that are kept until the recording is written.
use Rattle.std.specs.Prelude.{ℕ, ◌≡◌, ◌≤◌, ◌+◌, ◌++◌, List, [], Option, None, Some, take, drop, length}
use Rattle.std.specs.List.{All, flat_map}
use Rattle.event_state.specs.declared.event.Event.{Event}
use Rattle.ospf_types.specs.Lsa.{Lsa}
use Rattle.lsa_codec.specs.Checksum.{IsSound}
use Rattle.lsa_codec.specs.Decoding.{lsa_of}
use Rattle.lsa_codec.specs.Spelling.{Spells}
use Rattle.capture_recording.specs.declared.kept_events.KeptEvent.{KeptEvent}
use Rattle.capture_recording.specs.declared.kept_events.KeptEvent.TheVariants.{Seconds, Install}
use Rattle.capture_recording.specs.Events.{install_events, lines_of, second_events}

abbrev pub part : List ℕ → (start size : ℕ) → List ℕ
part bytes start size = take size (drop start bytes)

-- the LSA is in the bytes
abbrev pub kept_events : List ℕ → KeptEvent → List Event
kept_events bytes (Seconds seconds) = second_events seconds
kept_events bytes (Install scope start size purges) = install_events scope (lsa_of (part bytes start size)) purges

abbrev pub kept_lines : List ℕ → KeptEvent → List ℕ
kept_lines bytes kept = lines_of (kept_events bytes kept)

abbrev pub text_of : List ℕ → List KeptEvent → List ℕ
text_of bytes all = flat_map (kept_lines bytes) all

-- the text of the events, if they are kept
abbrev pub kept_if : Option (List ℕ) → List ℕ
kept_if None = []
kept_if (Some text) = text

-- bytes of an LSA
pub record AreOfLsa (bytes : List ℕ) : Type 0 where
  pub sound : IsSound bytes
  pub spelled : Spells bytes (lsa_of bytes)

-- the bytes of the LSA are there
pub record IsLsaWithin (bytes : List ℕ) (start size : ℕ) : Type 0 where
  pub within : start + size ≤ length bytes
  pub are : AreOfLsa (part bytes start size)

abbrev pub IsKeptWithin : List ℕ → KeptEvent → Type 0
IsKeptWithin bytes (Seconds seconds) = Unit {0}
IsKeptWithin bytes (Install scope start size purges) = IsLsaWithin bytes start size

abbrev pub AreKeptWithin : List ℕ → List KeptEvent → Type 0
AreKeptWithin bytes all = All (IsKeptWithin bytes) all

-- bytes were appended
pub record Gains (old new : List ℕ) : Type 0 where
  pub more : List ℕ
  pub is : new ≡ old ++ more

-- this LSA is in the bytes
pub record IsLsaAt (bytes : List ℕ) (start size : ℕ) (lsa : Lsa) : Type 0 where
  pub within : IsLsaWithin bytes start size
  pub is : lsa_of (part bytes start size) ≡ lsa
