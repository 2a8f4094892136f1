use Rattle.std.proofs.Common.{◌≡◌, ◌++◌}
use Rattle.std.specs.Iterator.Adapters.{zip_first, zip_second}
use Rattle.std.specs.Slice.Iter.{iter_rest}
use Rattle.route_layers.specs.Trees.{areas_with}
use Rattle.route_layers.proofs.inputs.area_inputs.Given as goal

abbrev pub invariant-loop-area : goal.invariant-loop-area
invariant-loop-area l = l.areas.items ++ areas_with l.state (iter_rest (zip_first l.area-iterator)) (iter_rest (zip_second l.area-iterator)) ≡ areas_with l.state l.state.config.areas l.trees
