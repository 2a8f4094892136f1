use Rattle.lanes.proofs.Vectors.{lanes_next, lanes_aged, lanes_counted}
use Rattle.lanes.proofs.ages.second_of_lanes.Goals as goal

pub returns-clause-aged : goal.returns-clause-aged
returns-clause-aged c = lanes_aged c.args.ages.now _ c.requires.full (lanes_next c.args.ages.now c.requires.full c.requires.small)

pub returns-clause-came : goal.returns-clause-came
returns-clause-came c = lanes_counted c.args.ages.now _ c.requires.full (lanes_next c.args.ages.now c.requires.full c.requires.small)
