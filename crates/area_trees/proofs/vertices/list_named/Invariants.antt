use Rattle.std.proofs.Common.{◌≡◌, take}
use Rattle.std.specs.List.{filter_map}
use Rattle.area_trees.specs.Areas.{vertex_of}
use Rattle.area_trees.proofs.vertices.list_named.Given as goal

abbrev pub invariant-loop-key : goal.invariant-loop-key
invariant-loop-key l = l.vertices.items ≡ filter_map vertex_of (take l.key-index l.keys)
