use Rattle.std.proofs.Common.{ap, ◌∙◌}
use Rattle.std.specs.FinMap.{get, remove}
use Rattle.spf.proofs.Resetting.{more_cleared}
use Rattle.spf.proofs.relax.clear.Goals as goal

pub loop-vertex-preserved : goal.loop-vertex-preserved
loop-vertex-preserved c =
    more_cleared (get c.args.distances.now) c.loop-vertex.distances c.args.lost.now c.loop-vertex.vertex-index c.vertex-item.result c.loop-vertex-test.true c.remove.new.self (c.remove.ensures ∙ ap (remove c.loop-vertex.distances) c.vertex-item.is) c.loop-vertex.invariant
