-- The beginning of a recording of what was captured.
use Rattle.std.specs.Prelude.{ℕ, List, map}
use Rattle.ospf_types.specs.declared.config.Config.{Config}
use Rattle.ospf_types.specs.declared.config.Interface.{Interface}
use Rattle.event_state.specs.Bases.{bare}
use Rattle.event_state.specs.declared.event.Event.TheVariants as event
use Rattle.recording.specs.declared.line.Line.{Line}
use Rattle.recording.specs.declared.line.Line.TheVariants as line
use Rattle.recording.specs.declared.version.Version.TheVariants.{One}
use Rattle.recording.specs.Forms.{Form}
use Rattle.recording.specs.Recordings.{RecordingValue, IsText, form_of, recording_of, text_of}
use Rattle.captured_config.specs.Areas.{ascending}
use Rattle.captured_config.specs.Lsas.{Captured}
use Rattle.captured_config.specs.Interfaces.{interfaces_in}
use Rattle.captured_config.specs.Configs.{config_of}
use Rattle.captured_config.specs.Facts.{Facts}
use Rattle.captured_config.specs.Finding.{config_by, interfaces_by}

-- an interface comes
abbrev pub interface_event : ℕ × Interface → Line
interface_event x = line.Event (event.Interface x.0 x.1.area x.1.address x.1.peer x.1.up)

abbrev pub interface_forms : List (ℕ × Interface) → List Form
interface_forms interfaces = map (λ x. form_of (interface_event x)) interfaces

-- The recording has this text, and is read from it.
abbrev pub HasText : RecordingValue → Type 0
HasText r = IsText (text_of r) r

-- a configuration, followed by its interfaces
abbrev pub recording_with : Config → (interfaces : List (ℕ × Interface)) → RecordingValue
recording_with config interfaces = recording_of One (bare config) (map interface_event interfaces)

-- the configuration with the areas that were seen, and the router's interfaces in them
abbrev pub captured_recording : Captured → (areas : List ℕ) → RecordingValue
captured_recording c areas = recording_with (config_of c areas) (interfaces_in c.router c.lsas (ascending areas)).interfaces

-- by the facts that are kept
abbrev pub recording_by : Facts → (ids : List ℕ) → RecordingValue
recording_by f ids = recording_with (config_by f ids) (interfaces_by f.lists ids).interfaces
