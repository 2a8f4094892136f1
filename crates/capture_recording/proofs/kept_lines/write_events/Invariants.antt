use Rattle.std.proofs.Common.{string_bytes}
use Rattle.capture_recording.proofs.Putting.{IsPut}
use Rattle.capture_recording.proofs.kept_lines.write_events.Given as goal

abbrev pub invariant-loop-place : goal.invariant-loop-place
invariant-loop-place g l = IsPut l.bytes l.events (g.W.Write.contents l.initial.out) (g.W.Write.contents l.out) l.place (string_bytes l.text)
