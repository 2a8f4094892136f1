use Rattle.std.proofs.Common.{take}
use Rattle.std.specs.FinMap.{get}
use Rattle.spf.specs.HandedOn.{IsOfSome, ArePut, IsReachedAt}
use Rattle.spf.proofs.update_next_hops.put_reached.Given as goal

-- the vertices so far wait
abbrev pub invariant-loop-vertex : goal.invariant-loop-vertex
invariant-loop-vertex l = ArePut (get l.distances) (IsOfSome (take l.vertex-index l.vertices) (IsReachedAt l.root (get l.distances))) (get l.initial.queue) (get l.queue)
