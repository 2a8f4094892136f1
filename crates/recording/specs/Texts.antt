-- The printed text of a fault: its line, its number and its name, and those of the fault that is
-- given too.
use Rattle.std.specs.Prelude.{ℕ, List, ◌++◌, codes, decimal}
use Rattle.ospf_types.specs.Text.{memory_text}
use Rattle.lsa_codec.specs.Text.{wire_fault_text}
use Rattle.ospf_types.specs.Texts.{config_fault_text}
use Rattle.event_state.specs.Texts.{unfit_text}
use Rattle.recording.specs.declared.fault.Fault.{Fault}
use Rattle.recording.specs.declared.fault.Fault.TheVariants as fault
use Rattle.recording.specs.declared.fault.LineFault.{LineFault}

abbrev pub fault_text : Fault → List ℕ
fault_text fault.Truncated = codes "50 Truncated"
fault_text fault.Version = codes "51 Version"
fault_text fault.Line = codes "52 Line"
fault_text fault.Order = codes "53 Order"
fault_text (fault.Wire f) = codes "54 Wire " ++ wire_fault_text f
fault_text (fault.Config f) = codes "55 Config " ++ config_fault_text f
fault_text (fault.Base u) = codes "56 Base " ++ unfit_text u
fault_text fault.Memory = memory_text

abbrev pub line_fault_text : LineFault → List ℕ
line_fault_text l = codes "line " ++ decimal l.line ++ codes ": " ++ fault_text l.fault
