use Rattle.std.proofs.Common.{◌≡◌, ◌++◌, take}
use Rattle.vertex_queue.proofs.differing.add_all.Given as goal

abbrev pub invariant-loop-vertex : goal.invariant-loop-vertex
invariant-loop-vertex l = l.listing ≡ l.initial.listing ++ take l.vertex-index l.vertices
