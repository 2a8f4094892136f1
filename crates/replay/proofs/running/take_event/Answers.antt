use Rattle.std.proofs.lemmas.Result.{on_ok_weaker}
use Rattle.replay.proofs.RunSteps.{event_done, event_refused}
use Rattle.replay.proofs.running.take_event.Goals as goal

pub returns-in-Ok : goal.returns-in-Ok
returns-in-Ok c = event_done _ _ _ c.apply.result _ c.in-Ok.is c.apply.ensures.applied

pub returns-in-Err : goal.returns-in-Err
returns-in-Err c = on_ok_weaker c.unless_memory.result (event_refused _ _ _ c.apply.result _ c.in-Err.is c.apply.ensures.applied) c.unless_memory.ensures
