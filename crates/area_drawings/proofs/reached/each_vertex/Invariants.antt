use Rattle.std.proofs.Common.{◌≡◌, take}
use Rattle.std.specs.List.{filter_map}
use Rattle.area_trees.specs.Areas.{vertex_of}
use Rattle.area_drawings.proofs.reached.each_vertex.Given as goal

abbrev pub invariant-loop-key : goal.invariant-loop-key
invariant-loop-key l = l.vertices.items ≡ filter_map vertex_of (take l.key-index l.keys)
