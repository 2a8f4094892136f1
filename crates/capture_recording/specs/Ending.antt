-- The end of a capture, and its result.
use Rattle.std.specs.Prelude.{ℕ, Bool, true, false, List, [], Option, Result, Ok, Err}
use Rattle.captures.specs.Reading.{unread}
use Rattle.captures.specs.Positions.{Position, IsAtEnding, Stops}
use Rattle.captures.specs.declared.capture_error.CaptureError.TheVariants as error
use Rattle.ospf_types.specs.declared.fault.ConfigFault.{ConfigFault}
use Rattle.capture_recording.specs.declared.ending.Ending.{Ending}
use Rattle.capture_recording.specs.declared.ending.Ending.TheVariants.{Whole, Fault, Unread}
use Rattle.capture_recording.specs.declared.fault.CapturingFault.{CapturingFault}
use Rattle.capture_recording.specs.declared.fault.CapturingFault.TheVariants.{Capture, Read, Config, Unsaid}

-- before the first byte
abbrev pub first_position : Position
first_position = record { state = unread; ahead = 0; pending = []; place = 0 }

abbrev pub IsEnding : Ending → Position → Option (List ℕ) → Type 0
IsEnding Whole at left = IsAtEnding at left
IsEnding (Fault kind place) at left = Stops (error.Fault kind place) at left
IsEnding Unread at left = Stops error.Read at left

abbrev pub IsSomeEnding : Position → Option (List ℕ) → Type 0
IsSomeEnding at left = (ending : Ending) × IsEnding ending at left

abbrev pub result_of : Ending → Result (Unit {0}) CapturingFault
result_of Whole = Ok tt
result_of (Fault kind place) = Err (Capture kind place)
result_of Unread = Err Read

abbrev pub fault_lacking : Ending → ConfigFault → CapturingFault
fault_lacking Whole fault = Config fault
fault_lacking (Fault kind place) fault = Capture kind place
fault_lacking Unread fault = Read

-- the answer if something could not be printed, or else this
abbrev pub unless_silent : (is_silent : Bool) → Result (Unit {0}) CapturingFault → Result (Unit {0}) CapturingFault
unless_silent true answer = Err Unsaid
unless_silent false answer = answer
