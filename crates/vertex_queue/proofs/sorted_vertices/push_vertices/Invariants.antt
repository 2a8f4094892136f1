use Rattle.std.proofs.Common.{◌≡◌, ◌++◌, map, take}
use Rattle.vertex_queue.specs.Keys.{vertex_at}
use Rattle.vertex_queue.proofs.sorted_vertices.push_vertices.Given as goal

abbrev pub invariant-loop-key : goal.invariant-loop-key
invariant-loop-key l = l.vertices.items ≡ l.initial.vertices.items ++ map vertex_at (take l.key-index l.keys)
