-- The output for a capture: the recording, and the lines about it.
use Rattle.std.specs.Prelude.{ℕ, ◌≡◌, ◌++◌, ◌⊎◌, List, [], length, map, Option, None, Some, Result, MatchResult}
use Rattle.std.specs.Io.KnownBytes.{Appends}
use Rattle.captures.specs.Positions.{Position, IsAtEnding, Stops}
use Rattle.captures.specs.declared.capture_error.CaptureError.TheVariants as error
use Rattle.captured_config.specs.Configs.{config_of}
use Rattle.captured_config.specs.Fronts.{captured_recording}
use Rattle.captured_config.specs.Unknown.{unknown_text}
use Rattle.ospf_types.specs.Configs.{config_fault_of}
use Rattle.captured_lsas.specs.declared.options.Options.{Options}
use Rattle.capture_recording.specs.Rules.{Rules}
use Rattle.capture_recording.specs.Counts.{counts_line}
use Rattle.ospf_types.specs.declared.fault.ConfigFault.{ConfigFault}
use Rattle.recording.specs.Faults.{IsFaultOf}
use Rattle.recording.specs.Recordings.{RecordingValue, IsText}
use Rattle.recording.specs.declared.fault.LineFault.{LineFault}
use Rattle.replay.specs.Writing.{AppendsPart}
use Rattle.capture_recording.specs.declared.capturing.Preamble.{Preamble}
use Rattle.capture_recording.specs.declared.capturing.Preamble.TheVariants.{Given, Router}
use Rattle.capture_recording.specs.declared.fault.CapturingFault.{CapturingFault}
use Rattle.capture_recording.specs.declared.fault.CapturingFault.TheVariants.{Capture, Read, Line, Config, Unsaid, Write, Closed, Memory}
use Rattle.capture_recording.specs.Ending.{IsSomeEnding}
use Rattle.capture_recording.specs.FirstPackets.{FirstPackets}
use Rattle.capture_recording.specs.Folds.{counts_of, areas_of, captured_of}
use Rattle.capture_recording.specs.Said.{AppendsUpTo}
use Rattle.capture_recording.specs.Steps.{PacketStep}
use Rattle.capture_recording.specs.Texts.{notes_of}

-- ---- the recording

-- the text of a recording
abbrev pub IsRecordingText : List ℕ → Type 0
IsRecordingText bytes = (recording : RecordingValue) × IsText bytes recording

-- the beginning of the recording: bytes that are a recording, or the preamble that the packets show
-- for a router
abbrev pub IsFront : Preamble → List PacketStep → List ℕ → Type 0
IsFront (Given bytes) steps front = (front ≡ bytes.now) × IsRecordingText bytes.now
IsFront (Router router) steps front = IsText front (captured_recording (captured_of router steps) (areas_of steps))

-- the Area IDs of a recording's configuration
abbrev pub areas_in : RecordingValue → List ℕ
areas_in recording = map (λ area. area.id) recording.base.config.areas

-- bytes that are the text of no other recording
abbrev pub IsOnlyText : List ℕ → RecordingValue → Type 0
IsOnlyText bytes recording = (other : RecordingValue) → IsText bytes other → recording ≡ other

-- after a preamble that is given, only LSAs of its areas are recorded
abbrev pub IsLimit : Preamble → (areas : Option (List ℕ)) → Type 0
IsLimit (Given bytes) areas = (recording : RecordingValue) → IsText bytes.now recording → areas ≡ Some (areas_in recording)
IsLimit (Router router) areas = areas ≡ None

-- the beginning and the lines were written
pub record IsRecordingWritten (beginning : Preamble) (old new : Option (List ℕ)) (steps : List PacketStep) (lines : List ℕ) : Type 0 where
  pub front : List ℕ
  pub is : IsFront beginning steps front
  pub written : Appends old new (front ++ lines)

-- a part of them was written, and not all
pub record IsWrittenPart (beginning : Preamble) (old new : Option (List ℕ)) (steps : List PacketStep) (lines : List ℕ) : Type 0 where
  pub front : List ℕ
  pub is : IsFront beginning steps front
  pub written : AppendsPart old new (front ++ lines)

-- nothing was written, or a beginning of them
pub record IsWrittenUpTo (beginning : Preamble) (old new : Option (List ℕ)) (steps : List PacketStep) (lines : List ℕ) : Type 0 where
  pub front : List ℕ
  pub is : IsFront beginning steps front
  pub written : AppendsUpTo old new (front ++ lines)

-- ---- what is said

-- the line of counts
abbrev pub counts_text : List PacketStep → List ℕ
counts_text steps = counts_line (counts_of steps) (length (areas_of steps))

-- the parts of the router that the packets do not show
abbrev pub unknown_of : Preamble → List PacketStep → List ℕ
unknown_of (Given bytes) steps = []
unknown_of (Router router) steps = unknown_text (captured_of router steps) (areas_of steps)

abbrev pub all_notes : Preamble → List PacketStep → List ℕ
all_notes beginning steps = notes_of steps ++ (unknown_of beginning steps ++ counts_text steps)

-- ---- the outcome

-- all packets that were read are recorded; E holds of the place where the reading ended, and S of
-- the lines about it
abbrev pub IsCaptureRecorded : Rules → Preamble → (before after old new : Option (List ℕ)) → (E : Position → Type 0) → (S : List ℕ → Type 0) → Type 0
IsCaptureRecorded rules beginning before after old new E S = FirstPackets rules before after (λ at steps lines.
    E at × IsRecordingWritten beginning old new steps lines × S (all_notes beginning steps))

-- the packets show no configuration of the router but one with this fault
abbrev pub HasConfigFault : Preamble → List PacketStep → ConfigFault → Type 0
HasConfigFault (Given bytes) steps fault = ⊥
HasConfigFault (Router router) steps fault = config_fault_of (config_of (captured_of router steps) (areas_of steps)) ≡ Some fault

-- nothing is recorded, for this fault of the configuration
abbrev pub Lacks : Rules → Preamble → (before after old new : Option (List ℕ)) → (E : Position → Type 0) → (S : List ℕ → Type 0) → ConfigFault → Type 0
Lacks rules beginning before after old new E S fault = FirstPackets rules before after (λ at steps lines.
    E at × HasConfigFault beginning steps fault × Appends old new [] × S (notes_of steps ++ counts_text steps))

-- all packets that were read are recorded, unless the configuration has a fault
abbrev pub IsRecordedOrLacks : Rules → Preamble → (before after old new : Option (List ℕ)) → (E : Position → Type 0) → (S : List ℕ → Type 0) → Type 0
IsRecordedOrLacks rules beginning before after old new E S =
    IsCaptureRecorded rules beginning before after old new E S
    ⊎ ((fault : ConfigFault) × Lacks rules beginning before after old new E S fault)

-- the given beginning has this fault
abbrev pub IsGivenFault : Preamble → LineFault → Type 0
IsGivenFault (Given bytes) fault = IsFaultOf bytes.now fault
IsGivenFault (Router router) fault = ⊥

-- the writing failed: a part was written, and not all
abbrev pub IsRecordedPart : Rules → Preamble → (before after old new told_before told : Option (List ℕ)) → Type 0
IsRecordedPart rules beginning before after old new told_before told = FirstPackets rules before after (λ at steps lines.
    IsWrittenPart beginning old new steps lines × AppendsUpTo told_before told (notes_of steps))

-- memory ran out after some of the packets
abbrev pub IsRecordedUpTo : Rules → Preamble → (before old new told_before told : Option (List ℕ)) → Type 0
IsRecordedUpTo rules beginning before old new told_before told = (left : Option (List ℕ)) × FirstPackets rules before left (λ at steps lines.
    (Appends old new [] ⊎ IsWrittenUpTo beginning old new steps lines) × AppendsUpTo told_before told (notes_of steps))

-- the outcome of each answer except the one that all is recorded and printed
abbrev pub FaultOutcome : Rules → Preamble → (before after old new told_before told : Option (List ℕ)) → CapturingFault → Type 0
FaultOutcome rules beginning before after old new told_before told (Capture kind place) =
    IsRecordedOrLacks rules beginning before after old new (λ at. Stops (error.Fault kind place) at after) (Appends told_before told)
FaultOutcome rules beginning before after old new told_before told Read =
    IsRecordedOrLacks rules beginning before after old new (λ at. Stops error.Read at after) (Appends told_before told)
FaultOutcome rules beginning before after old new told_before told (Line fault) = IsGivenFault beginning fault × (after ≡ before) × (new ≡ old) × (told ≡ told_before)
FaultOutcome rules beginning before after old new told_before told (Config fault) =
    Lacks rules beginning before after old new (λ at. IsAtEnding at after) (Appends told_before told) fault
FaultOutcome rules beginning before after old new told_before told Unsaid =
    IsRecordedOrLacks rules beginning before after old new (λ at. IsSomeEnding at after) (AppendsPart told_before told)
FaultOutcome rules beginning before after old new told_before told Write = IsRecordedPart rules beginning before after old new told_before told
FaultOutcome rules beginning before after old new told_before told Closed = IsRecordedPart rules beginning before after old new told_before told
FaultOutcome rules beginning before after old new told_before told Memory = IsRecordedUpTo rules beginning before old new told_before told

-- the meaning of each answer, by these rules
abbrev pub RuledOutcome : Rules → Preamble → (before after old new told_before told : Option (List ℕ)) → Result (Unit {0}) CapturingFault → Type 0
RuledOutcome rules beginning before after old new told_before told result =
    MatchResult result (λ _. IsCaptureRecorded rules beginning before after old new (λ at. IsAtEnding at after) (Appends told_before told))
    (FaultOutcome rules beginning before after old new told_before told)

-- the beginning that was given has a fault
abbrev pub IsLine : CapturingFault → Type 0
IsLine (Capture kind place) = ⊥
IsLine Read = ⊥
IsLine (Line fault) = Unit {0}
IsLine (Config fault) = ⊥
IsLine Unsaid = ⊥
IsLine Write = ⊥
IsLine Closed = ⊥
IsLine Memory = ⊥

-- the meaning of each answer; the rules do not count if the beginning has a fault
abbrev pub CaptureOutcome : Options → Preamble → (before after old new told_before told : Option (List ℕ)) → Result (Unit {0}) CapturingFault → Type 0
CaptureOutcome options beginning before after old new told_before told result =
    (areas : Option (List ℕ))
    × (IsLimit beginning areas ⊎ MatchResult result (λ _. ⊥) IsLine)
    × RuledOutcome (record { options = options; areas = areas }) beginning before after old new told_before told result
