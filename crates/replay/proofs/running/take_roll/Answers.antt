use Rattle.replay.proofs.RunSteps.{roll_done}
use Rattle.replay.proofs.running.take_roll.Goals as goal

pub returns-in-Ok : goal.returns-in-Ok
returns-in-Ok c = roll_done _ _ c.roll.result _ c.in-Ok.is c.roll.ensures
