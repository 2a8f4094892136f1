-- The printed lines of the packets of a capture.
use Rattle.std.specs.Prelude.{ℕ, List, [], Option, None, Some}
use Rattle.std.specs.List.{flat_map}
use Rattle.event_state.specs.declared.event.Event.{Event}
use Rattle.captured_lsas.specs.declared.heard.Heard.{Heard}
use Rattle.captured_lsas.specs.declared.heard.Heard.TheVariants.{Other, Fault, Part, Whole}
use Rattle.captured_lsas.specs.declared.taken.Taken.{Taken}
use Rattle.capture_recording.specs.Events.{taken_events, AreAppended}
use Rattle.capture_recording.specs.Notes.{datagram_note, taken_text}
use Rattle.capture_recording.specs.Steps.{PacketStep}

-- ---- the events of the recording

abbrev pub some_events : Option Taken → List Event
some_events None = []
some_events (Some taken) = taken_events taken

abbrev pub step_events : PacketStep → List Event
step_events step = some_events step.taken

-- those of each packet, in their order
abbrev pub events_of : List PacketStep → List Event
events_of steps = flat_map step_events steps

-- the text has the lines of their events, and no more
abbrev pub AreLines : List PacketStep → List ℕ → Type 0
AreLines steps lines = AreAppended [] lines (events_of steps)

-- ---- the notes

abbrev pub taken_notes : (when : Option ℕ) → (sender : ℕ) → Option Taken → List ℕ
taken_notes when sender None = []
taken_notes when sender (Some taken) = taken_text when (Some sender) taken

abbrev pub heard_notes : (when : Option ℕ) → Heard → Option Taken → List ℕ
heard_notes when Other taken = []
heard_notes when (Fault fault) taken = datagram_note when fault
heard_notes when Part taken = []
heard_notes when (Whole sender payload) taken = taken_notes when sender taken

abbrev pub step_notes : PacketStep → List ℕ
step_notes step = heard_notes step.packet.time step.heard step.taken

-- those of each packet, in their order
abbrev pub notes_of : List PacketStep → List ℕ
notes_of steps = flat_map step_notes steps
