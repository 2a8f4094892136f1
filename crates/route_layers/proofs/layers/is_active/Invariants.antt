use Rattle.std.proofs.Common.{length}
use Rattle.std.specs.FinMap.{entries}
use Rattle.route_layers.proofs.Examining.{IsLeft}
use Rattle.route_layers.proofs.layers.is_active.Given as goal

abbrev pub invariant-loop-interface : goal.invariant-loop-interface
invariant-loop-interface l = IsLeft (entries l.state.interfaces) l.left l.area

abbrev pub decreases-loop-interface : goal.decreases-loop-interface
decreases-loop-interface l = length l.left
