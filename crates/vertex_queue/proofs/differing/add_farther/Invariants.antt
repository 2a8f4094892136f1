use Rattle.std.proofs.Common.{take}
use Rattle.vertex_queue.specs.Differing.{IsFarther, IsGrown}
use Rattle.vertex_queue.proofs.differing.add_farther.Given as goal

abbrev pub invariant-loop-vertex : goal.invariant-loop-vertex
invariant-loop-vertex l = IsGrown l.listing l.initial.listing (IsFarther (take l.vertex-index l.remembered) l.distances)
