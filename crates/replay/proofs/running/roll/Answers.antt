use Rattle.replay.proofs.RunSteps.{rolls_by}
use Rattle.replay.proofs.running.roll.Goals as goal

pub returns : goal.returns
returns c = rolls_by _ _ c.roll.result c.roll.ensures.rolled c.roll.ensures.serial c.roll.ensures.current c.roll.ensures.refused c.roll.ensures.unchanged
