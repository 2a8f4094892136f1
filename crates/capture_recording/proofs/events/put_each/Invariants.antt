use Rattle.std.proofs.Common.{◌≡◌, ◌++◌, string_bytes}
use Rattle.std.specs.List.{flat_map}
use Rattle.std.specs.Vec.Iter.{into_iter_items}
use Rattle.capture_recording.specs.Events.{AreAppended, recorded_events}
use Rattle.capture_recording.proofs.events.put_each.Given as goal

abbrev pub invariant-loop-one : goal.invariant-loop-one
invariant-loop-one l =
    (l.yielded ++ into_iter_items l.one-iterator ≡ l.fn.recorded.items)
    × AreAppended (string_bytes l.initial.text) (string_bytes l.text) (flat_map recorded_events l.yielded)
