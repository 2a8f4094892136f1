-- The printed text of the fault of a replay.
use Rattle.std.specs.Prelude.{ℕ, List, codes}
use Rattle.ospf_types.specs.Text.{memory_text}
use Rattle.recording.specs.Texts.{line_fault_text}
use Rattle.replay.specs.declared.fault.ReplayFault.{ReplayFault}
use Rattle.replay.specs.declared.fault.ReplayFault.TheVariants as fault

abbrev pub replay_fault_text : ReplayFault → List ℕ
replay_fault_text fault.Read = codes "cannot read"
replay_fault_text fault.Write = codes "cannot write"
replay_fault_text fault.Closed = codes "closed pipe"
replay_fault_text fault.Memory = memory_text
replay_fault_text (fault.Line f) = line_fault_text f
