-- The printed lines about the faults in a capture, about time that goes back, about seconds that
-- are not recorded, and about areas that a recording does not have.
use Rattle.std.specs.Prelude.{ℕ, Bool, ◌-◌, ◌/◌, ◌%◌, ◌++◌, ◌==◌, if◌then◌else◌, List, [], Option, Some, None, length, replicate, codes, decimal}
use Rattle.std.specs.List.{flat_map}
use Rattle.ospf_types.specs.Text.{address_text}
use Rattle.lsa_codec.specs.Text.{wire_fault_text}
use Rattle.packets.specs.declared.datagram_fault.DatagramFault.{DatagramFault}
use Rattle.packets.specs.DatagramText.{datagram_fault_text}
use Rattle.packets.specs.Text.{packet_fault_text, update_fault_text}
use Rattle.captured_lsas.specs.declared.recorded.Recorded.{Recorded}
use Rattle.captured_lsas.specs.declared.recorded.Recorded.TheVariants as recorded
use Rattle.captured_lsas.specs.declared.taken.Taken.{Taken}
use Rattle.captured_lsas.specs.declared.taken.Taken.TheVariants as taken
use Rattle.capture_recording.specs.declared.capture_fault.CaptureFault.{CaptureFault}
use Rattle.capture_recording.specs.declared.capture_fault.CaptureFault.TheVariants as fault
use Rattle.capture_recording.specs.Seconds.{recorded_of}

-- ---- of which times

-- by how many seconds the time of a packet goes back
abbrev pub taken_back : Taken → ℕ
taken_back (taken.Packet kind router area back seconds all) = back
taken_back (taken.Fault f) = 0

-- the number of seconds that pass before the LSAs of a packet
abbrev pub taken_seconds : Taken → ℕ
taken_seconds (taken.Packet kind router area back seconds all) = seconds
taken_seconds (taken.Fault f) = 0

-- ---- what is printed of them

-- nine digits, with zeros in front
abbrev pub nine_digits : ℕ → List ℕ
nine_digits n = replicate (9 - length (decimal n)) 48 ++ decimal n

-- a time in nanoseconds since the beginning of 1970, UTC: the seconds, with nine digits after the
-- point
abbrev pub time_text : ℕ → List ℕ
time_text time = decimal (time / 1000000000) ++ codes "." ++ nine_digits (time % 1000000000)

-- the time of a packet, or a dash where it has none
abbrev pub when_text : Option ℕ → List ℕ
when_text (Some time) = time_text time
when_text None = codes "-"

-- the address of the sender, or a dash where it is not known
abbrev pub sender_text : Option ℕ → List ℕ
sender_text (Some address) = address_text address
sender_text None = codes "-"

-- its number and its name
abbrev pub capture_fault_text : CaptureFault → List ℕ
capture_fault_text (fault.Datagram f) = datagram_fault_text f
capture_fault_text (fault.Packet f) = packet_fault_text f
capture_fault_text (fault.Update f) = update_fault_text f
capture_fault_text (fault.Lsa f) = wire_fault_text f

abbrev pub note_line : (when sender : Option ℕ) → CaptureFault → List ℕ
note_line when sender f = codes "abr: " ++ when_text when ++ codes " " ++ sender_text sender ++ codes ": " ++ capture_fault_text f ++ codes "\n"

-- the line for a datagram, whose sender is not known
abbrev pub datagram_note : (when : Option ℕ) → DatagramFault → List ℕ
datagram_note when f = note_line when None (fault.Datagram f)

-- the area of an LSA that is left out
abbrev pub area_line : (when sender : Option ℕ) → (area : ℕ) → List ℕ
area_line when sender area =
    codes "abr: " ++ when_text when ++ codes " " ++ sender_text sender ++ codes ": area " ++ address_text area ++ codes " is not in the beginning: its LSAs are left out\n"

-- a line for the first LSA of the area
abbrev pub area_text : (when sender : Option ℕ) → (area : ℕ) → (is_first : Bool) → List ℕ
area_text when sender area is_first = if is_first then area_line when sender area else []

-- the line for a place of a Link State Update
abbrev pub recorded_text : (when sender : Option ℕ) → Recorded → List ℕ
recorded_text when sender (recorded.Install scope lsa purges) = []
recorded_text when sender recorded.Repeated = []
recorded_text when sender (recorded.OtherArea area is_first) = area_text when sender area is_first
recorded_text when sender (recorded.Fault f) = note_line when sender (fault.Lsa f)
recorded_text when sender (recorded.Cut f) = note_line when sender (fault.Update f)

-- the lines for the payload of a datagram, in its order
abbrev pub payload_text : (when sender : Option ℕ) → Taken → List ℕ
payload_text when sender (taken.Packet kind router area back seconds all) = flat_map (recorded_text when sender) all.items
payload_text when sender (taken.Fault f) = note_line when sender (fault.Packet f)

abbrev pub back_line : (when sender : Option ℕ) → (back : ℕ) → List ℕ
back_line when sender back =
    codes "abr: " ++ when_text when ++ codes " " ++ sender_text sender ++ codes ": the time is " ++ decimal back ++ codes " s before that of the last packet, and goes on from there\n"

-- a line where time goes back
abbrev pub back_text : (when sender : Option ℕ) → ℕ → List ℕ
back_text when sender back = if back == 0 then [] else back_line when sender back

abbrev pub seconds_line : (when sender : Option ℕ) → (seconds recorded : ℕ) → List ℕ
seconds_line when sender seconds recorded =
    codes "abr: " ++ when_text when ++ codes " " ++ sender_text sender ++ codes ": " ++ decimal seconds ++ codes " seconds pass, " ++ decimal recorded ++ codes " are recorded\n"

-- a line where more seconds pass than are recorded
abbrev pub seconds_text : (when sender : Option ℕ) → ℕ → List ℕ
seconds_text when sender seconds = if recorded_of seconds == seconds then [] else seconds_line when sender seconds (recorded_of seconds)

-- the lines for the time of a packet
abbrev pub time_notes : (when sender : Option ℕ) → (back seconds : ℕ) → List ℕ
time_notes when sender back seconds = back_text when sender back ++ seconds_text when sender seconds

-- the lines for the time of a packet, and then for its content
abbrev pub taken_text : (when sender : Option ℕ) → Taken → List ℕ
taken_text when sender t = time_notes when sender (taken_back t) (taken_seconds t) ++ payload_text when sender t
