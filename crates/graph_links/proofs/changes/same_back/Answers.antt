use Rattle.std.proofs.Common.{arith}
use Rattle.graph_links.proofs.Taking.{same_none}
use Rattle.graph_links.proofs.changes.same_back.Goals as goal

pub loop-same-init : goal.loop-same-init
loop-same-init c = record { within_one = omega arith; within_other = omega arith; same = same_none c.args.one.now c.args.other.now }
