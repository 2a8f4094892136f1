use Rattle.std.proofs.Common.{◌≡◌, ◌++◌, map, take}
use Rattle.route_layers.proofs.trees.push_changed.Given as goal

abbrev pub invariant-loop-vertex : goal.invariant-loop-vertex
invariant-loop-vertex l = l.vertices.items ≡ l.fn.vertices.items ++ map (λ v. (l.area, v)) (take l.vertex-index l.tree.tree.changed)
