-- The faults of a command, as they are printed, and the status of the program.
use Rattle.std.specs.Prelude.{ℕ, ◌++◌, List, codes, decimal}
use Rattle.ospf_types.specs.Text.{memory_text}
use Rattle.captures.specs.declared.fault.FaultKind.{FaultKind}
use Rattle.captures.specs.declared.fault.FaultKind.TheVariants.{NoCapture, Version, BlockLength, PacketLength, NoInterface, Options, Resolution, CutOff}
use Rattle.captures.specs.Text.{fault_text as capture_fault_text}
use Rattle.lsa_codec.specs.Text.{wire_fault_text}
use Rattle.ospf_types.specs.Texts.{config_fault_text}
use Rattle.event_state.specs.Texts.{refusal_text}
use Rattle.recording.specs.Texts.{line_fault_text}
use Rattle.cli_queries.specs.declared.argument_values.WordFault.TheVariants.{NotAnAddress, NotHexadecimal, NotANumber, NotANetwork}
use Rattle.cli_queries.specs.declared.command_fault.CommandFault.{CommandFault}
use Rattle.cli_queries.specs.declared.command_fault.CommandFault.TheVariants as fault
use Rattle.cli_queries.specs.Words.{fault_text}

-- the words between a capture's name and the place of its fault
abbrev pub place_words : FaultKind → List ℕ
place_words NoCapture = codes "is at fault at byte"
place_words Version = codes "is at fault at byte"
place_words BlockLength = codes "is at fault at byte"
place_words PacketLength = codes "is at fault at byte"
place_words NoInterface = codes "is at fault at byte"
place_words Options = codes "is at fault at byte"
place_words Resolution = codes "is at fault at byte"
place_words CutOff = codes "is cut off at byte"

-- the printed text of a fault
abbrev pub command_fault_text : CommandFault → List ℕ
command_fault_text (fault.Word f) = fault_text f
command_fault_text (fault.Wire f) = wire_fault_text f
command_fault_text (fault.Config f) = config_fault_text f
command_fault_text (fault.Refused f) = refusal_text f
command_fault_text (fault.Read file) = codes "cannot read " ++ file.now
command_fault_text (fault.Line f) = line_fault_text f
command_fault_text (fault.Capture file place kind) = file.now ++ codes " " ++ place_words kind ++ codes " " ++ decimal place ++ codes ": " ++ capture_fault_text kind
command_fault_text fault.Beginning = codes "capture takes --router ADDRESS or --begin HEAD"
command_fault_text fault.Memory = memory_text
command_fault_text fault.Write = codes "cannot write"
command_fault_text (fault.WriteTo file) = codes "cannot write " ++ file.now
command_fault_text fault.Spawn = codes "31 Spawn"
command_fault_text fault.Place = codes "46 Place"
command_fault_text fault.NoEntry = codes "no entry"

-- 2 for a word that cannot be read and where there is no beginning, and else 1
abbrev pub status_of : CommandFault → ℕ
status_of (fault.Word NotAnAddress) = 2
status_of (fault.Word NotHexadecimal) = 2
status_of (fault.Word NotANumber) = 2
status_of (fault.Word NotANetwork) = 2
status_of fault.Beginning = 2
status_of _ = 1

abbrev pub fault_line : List ℕ → List ℕ
fault_line text = codes "abr: " ++ text ++ codes "\n"
