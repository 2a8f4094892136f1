use Rattle.std.proofs.Common.{string_bytes, take}
use Rattle.recording.proofs.Pieces.{Appended}
use Rattle.captured_config.specs.Fronts.{interface_forms}
use Rattle.captured_config.proofs.preamble.put_interfaces.Given as goal

abbrev pub invariant-loop-listed : goal.invariant-loop-listed
invariant-loop-listed l = Appended (string_bytes l.initial.text) (string_bytes l.text) (interface_forms (take l.listed-index l.interfaces))
