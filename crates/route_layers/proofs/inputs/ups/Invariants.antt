use Rattle.std.specs.FinMap.{entries}
use Rattle.route_layers.proofs.Ups.{AreTaken}
use Rattle.route_layers.proofs.inputs.ups.Given as goal

abbrev pub invariant-loop-id : goal.invariant-loop-id
invariant-loop-id l = AreTaken l.area (entries l.state.interfaces) l.ups.items l.id-iterator
