use Rattle.std.proofs.Common.{string_bytes, take}
use Rattle.std.specs.List.{flat_map}
use Rattle.recording.specs.Recordings.{area_forms}
use Rattle.recording.proofs.Pieces.{Appended}
use Rattle.recording.proofs.printing.append_header.Given as goal

abbrev pub invariant-loop-area : goal.invariant-loop-area
invariant-loop-area l = Appended (string_bytes l.initial.out) (string_bytes l.out) (flat_map area_forms (take l.area-index l.area-items))
