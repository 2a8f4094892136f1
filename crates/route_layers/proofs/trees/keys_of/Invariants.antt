use Rattle.std.proofs.Common.{take}
use Rattle.route_layers.proofs.Keys.{AreKeysOf}
use Rattle.route_layers.proofs.trees.keys_of.Given as goal

abbrev pub invariant-loop-scope : goal.invariant-loop-scope
invariant-loop-scope l = AreKeysOf l.area (take l.scope-index l.keys) l.found.items
