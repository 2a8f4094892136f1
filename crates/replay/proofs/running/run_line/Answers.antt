use Rattle.std.proofs.lemmas.Result.{on_ok_weaker}
use Rattle.replay.proofs.RunSteps.{event_ran, roll_ran, lookup_ran}
use Rattle.replay.proofs.running.run_line.Goals as goal

pub returns-in-Event : goal.returns-in-Event
returns-in-Event c = on_ok_weaker c.put_answer.result (event_ran _ _ _ _ _ c.in-Event.event c.apply.result _ _ c.in-Event.is c.apply.ensures.applied) c.put_answer.ensures

pub returns-in-Lookup : goal.returns-in-Lookup
returns-in-Lookup c = on_ok_weaker c.put_lookup.result (lookup_ran _ _ c.table.result.now _ _ _ _ _ c.in-Lookup.is c.table.ensures.value) c.put_lookup.ensures

pub returns-in-Roll : goal.returns-in-Roll
returns-in-Roll c = on_ok_weaker c.put_roll.result (roll_ran _ _ _ _ _ c.roll.result _ _ c.in-Roll.is c.roll.ensures) c.put_roll.ensures
