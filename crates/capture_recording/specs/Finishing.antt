-- The end of a capture that was read.
use Rattle.std.specs.Prelude.{ℕ, ◌≡◌, ◌++◌, List, [], Option, Some, None}
use Rattle.std.specs.Io.KnownBytes.{Appends}
use Rattle.captured_config.specs.Configs.{config_of}
use Rattle.captured_config.specs.declared.fault.PreambleFault.{PreambleFault}
use Rattle.captured_config.specs.declared.fault.PreambleFault.TheVariants as front_fault
use Rattle.captured_config.specs.Lsas.{Captured}
use Rattle.captured_config.specs.Unknown.{unknown_text}
use Rattle.capture_recording.specs.Rules.{Rules}
use Rattle.ospf_types.specs.Configs.{config_fault_of}
use Rattle.ospf_types.specs.declared.fault.ConfigFault.{ConfigFault}
use Rattle.capture_recording.specs.declared.capturing.Preamble.{Preamble}
use Rattle.capture_recording.specs.declared.capturing.Preamble.TheVariants.{Given, Router}
use Rattle.capture_recording.specs.declared.going.Ended.{Ended}
use Rattle.capture_recording.specs.Gathering.{waiting}
use Rattle.capture_recording.specs.Going.{GoesThrough}
use Rattle.capture_recording.specs.Outputs.{HasConfigFault, IsFront, IsRecordingWritten}

-- the router that the recording begins with
abbrev pub router_of : Preamble → Option ℕ
router_of (Given bytes) = None
router_of (Router router) = Some router

-- a capture was read, and its preamble and some of the lines were written
pub record IsCaptureBegun (rules : Rules) (beginning : Preamble) (before after old now told_before told : Option (List ℕ)) (ended : Ended) : Type 0 where
  pub written : List ℕ
  pub through : GoesThrough rules (router_of beginning) before told_before after told ended written
  pub front : List ℕ
  pub is : IsFront beginning through.recorded.steps front
  pub begun : Appends old now (front ++ written)

-- a capture was read, and this has to come before its lines
pub record IsBehind (rules : Rules) (beginning : Preamble) (before after told_before told : Option (List ℕ)) (ended : Ended) (front : List ℕ) : Type 0 where
  pub through : GoesThrough rules (router_of beginning) before told_before after told ended []
  pub is : IsFront beginning through.recorded.steps front

-- a capture was read, and its configuration of the router has this fault
pub record IsLacking (rules : Rules) (router : ℕ) (before after told_before told : Option (List ℕ)) (ended : Ended) (fault : ConfigFault) : Type 0 where
  pub through : GoesThrough rules (Some router) before told_before after told ended []
  pub has : HasConfigFault (Router router) through.recorded.steps fault

-- all of it was written
pub record IsWhollyWritten (rules : Rules) (beginning : Preamble) (before after old new told_before told : Option (List ℕ)) (ended : Ended) : Type 0 where
  pub written : List ℕ
  pub through : GoesThrough rules (router_of beginning) before told_before after told ended written
  pub all : IsRecordingWritten beginning old new through.recorded.steps (written ++ waiting ended.session)

-- ---- what is known of the router

-- the configuration has a fault, or memory ran out
abbrev pub IsNoFront : Captured → (areas : List ℕ) → PreambleFault → Type 0
IsNoFront known areas (front_fault.Config fault) = config_fault_of (config_of known areas) ≡ Some fault
IsNoFront known areas front_fault.Memory = Unit {0}

-- the lines about the parts that are not captured, if the preamble comes from the capture
abbrev pub unknown_if : Option Captured → (areas : List ℕ) → List ℕ
unknown_if None areas = []
unknown_if (Some known) areas = unknown_text known areas
