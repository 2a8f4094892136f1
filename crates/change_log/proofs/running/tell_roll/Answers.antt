use Rattle.replay.proofs.RunSteps.{rolls_by}
use Rattle.change_log.proofs.RunSteps.{roll_silent}
use Rattle.change_log.proofs.running.tell_roll.Goals as goal

pub returns-in-Ok-clause-ok : goal.returns-in-Ok-clause-ok
returns-in-Ok-clause-ok g c =
    roll_silent _ _ _ _ _ _ _ c.roll.result (rolls_by _ _ _ c.roll.ensures.rolled c.roll.ensures.serial c.roll.ensures.current c.roll.ensures.refused c.roll.ensures.unchanged) _ c.in-Ok.is
