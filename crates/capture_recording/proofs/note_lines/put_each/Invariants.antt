use Rattle.std.proofs.Common.{◌≡◌, ◌++◌, string_bytes, take}
use Rattle.std.specs.List.{flat_map}
use Rattle.capture_recording.specs.Notes.{recorded_text}
use Rattle.capture_recording.proofs.note_lines.put_each.Given as goal

abbrev pub invariant-loop-one : goal.invariant-loop-one
invariant-loop-one l = string_bytes l.text ≡ string_bytes l.initial.text ++ flat_map (recorded_text l.fn.place.when l.fn.place.sender) (take l.one-index l.recorded)
