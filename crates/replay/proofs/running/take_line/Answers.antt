use Rattle.std.proofs.lemmas.Result.{on_ok_weaker}
use Rattle.replay.proofs.RunSteps.{event_taken, roll_taken, lookup_taken}
use Rattle.replay.proofs.running.take_line.Goals as goal

pub returns-in-Event : goal.returns-in-Event
returns-in-Event c = on_ok_weaker c.take_event.result (event_taken _ _ _ c.in-Event.event c.in-Event.is) c.take_event.ensures

pub returns-in-Lookup : goal.returns-in-Lookup
returns-in-Lookup c = lookup_taken _ c.table.result.now _ _ _ c.in-Lookup.is c.table.ensures.value c.lookup.ensures

pub returns-in-Roll : goal.returns-in-Roll
returns-in-Roll c = on_ok_weaker c.take_roll.result (roll_taken _ _ _ c.in-Roll.is) c.take_roll.ensures
