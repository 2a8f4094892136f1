use Rattle.std.proofs.Common.{take}
use Rattle.route_layers.specs.Turns.{AreBuilt}
use Rattle.route_layers.proofs.trees.build_trees.Given as goal

abbrev pub invariant-loop-area : goal.invariant-loop-area
invariant-loop-area l = AreBuilt l.state (take l.area-index l.state.config.areas) l.trees.items l.work
