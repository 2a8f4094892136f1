use Rattle.route_layers.specs.Turns.{AreFollowedTo}
use Rattle.route_layers.proofs.trees.follow_trees.Given as goal

abbrev pub invariant-loop-place : goal.invariant-loop-place
invariant-loop-place l = AreFollowedTo l.changed.state.now l.changed.state.now.config.areas l.fn.trees l.trees l.vertices.items l.work l.place
