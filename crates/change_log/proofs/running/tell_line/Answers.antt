use Rattle.std.proofs.Common.{string_bytes, ap}
use Rattle.change_log.proofs.RunSteps.{told_as}
use Rattle.change_log.proofs.running.tell_line.Goals as goal
use Rattle.change_log.proofs.running.tell_line.Goals.{in-Event+in_ok-tell_event-in-Event, in-Lookup+in_ok-tell_lookup-in-Lookup, in-Roll+in_ok-tell_roll-in-Roll}

pub returns-clause-ok : goal.returns-clause-ok
returns-clause-ok g c = elim c.match-line.branch [
  | in-Event+in_ok-tell_event-in-Event w ↦ told_as _ _ _ _ _ _ _ _ _ _ _ _ _ _ w.in-Event.is w.core-is (ap g.W.Write.contents w.out-is) (ap string_bytes w.buffer-is) w.in_ok-tell_event-in-Event.ensures.ok
  | in-Lookup+in_ok-tell_lookup-in-Lookup w ↦ told_as _ _ _ _ _ _ _ _ _ _ _ _ _ _ w.in-Lookup.is w.core-is (ap g.W.Write.contents w.out-is) (ap string_bytes w.buffer-is) w.in_ok-tell_lookup-in-Lookup.ensures.ok
  | in-Roll+in_ok-tell_roll-in-Roll w ↦ told_as _ _ _ _ _ _ _ _ _ _ _ _ _ _ w.in-Roll.is w.core-is (ap g.W.Write.contents w.out-is) (ap string_bytes w.buffer-is) w.in_ok-tell_roll-in-Roll.ensures.ok
]
