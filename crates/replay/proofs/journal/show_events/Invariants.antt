use Rattle.std.proofs.Common.{string_bytes, drop}
use Rattle.std.specs.List.{flat_map}
use Rattle.replay.specs.Lines.{event_line}
use Rattle.replay.proofs.Paging.{Adding}
use Rattle.replay.proofs.journal.show_events.Given as goal

abbrev pub invariant-loop-event : goal.invariant-loop-event
invariant-loop-event g l =
    Adding (g.W.Write.contents l.initial.out) (g.W.Write.contents l.out) (string_bytes l.initial.buffer) (string_bytes l.buffer) (flat_map (event_line l.fn.format) l.fn.events)
    (flat_map (event_line l.fn.format) (drop l.event-index l.events))
