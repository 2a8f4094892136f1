use Rattle.std.proofs.Common.{string_bytes}
use Rattle.capture_recording.specs.Events.{AreAppended, second_events}
use Rattle.capture_recording.proofs.events.put_seconds.Given as goal

abbrev pub invariant-loop : goal.invariant-loop
invariant-loop l = AreAppended (string_bytes l.initial.text) (string_bytes l.text) (second_events l.counter)
