use Rattle.std.proofs.Common.{take}
use Rattle.vertex_queue.specs.Differing.{IsGrown, IsNearer}
use Rattle.vertex_queue.proofs.differing.add_nearer.Given as goal

abbrev pub invariant-loop-vertex : goal.invariant-loop-vertex
invariant-loop-vertex l = IsGrown l.listing l.initial.listing (IsNearer (take l.vertex-index l.moved) l.lost)
