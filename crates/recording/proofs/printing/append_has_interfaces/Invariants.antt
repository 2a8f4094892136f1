use Rattle.std.proofs.Common.{string_bytes, take, map}
use Rattle.recording.specs.Recordings.{interface_form}
use Rattle.recording.proofs.Pieces.{Appended}
use Rattle.recording.proofs.printing.append_has_interfaces.Given as goal

abbrev pub invariant-loop-listed : goal.invariant-loop-listed
invariant-loop-listed l = Appended (string_bytes l.initial.out) (string_bytes l.out) (map interface_form (take l.listed-index l.interfaces))
