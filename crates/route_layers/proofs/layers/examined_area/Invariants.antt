use Rattle.std.proofs.Common.{take}
use Rattle.route_layers.proofs.Examining.{IsFoundIn}
use Rattle.route_layers.proofs.layers.examined_area.Given as goal

abbrev pub invariant-loop-area : goal.invariant-loop-area
invariant-loop-area l = IsFoundIn l.state (take l.area-index l.state.config.areas) l.active
