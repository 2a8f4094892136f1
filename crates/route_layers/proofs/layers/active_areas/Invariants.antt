use Rattle.std.proofs.Common.{take}
use Rattle.route_layers.specs.Layers.{AreActiveIn}
use Rattle.route_layers.proofs.layers.active_areas.Given as goal

abbrev pub invariant-loop-area : goal.invariant-loop-area
invariant-loop-area l = AreActiveIn l.state (take l.area-index l.state.config.areas) l.active.items
