use Rattle.std.proofs.Common.{take}
use Rattle.std.specs.List.{flat_map}
use Rattle.capture_recording.specs.Events.{AreAppended, recorded_events}
use Rattle.capture_recording.proofs.kept_events.KeptEvents.push_each.Given as goal

abbrev pub invariant-loop-one : goal.invariant-loop-one
invariant-loop-one l = AreAppended l.initial.self l.self (flat_map recorded_events (take l.one-index l.recorded))
