use Rattle.std.proofs.Common.{take}
use Rattle.std.specs.FinMap.{get}
use Rattle.spf.specs.Offers.{IsCleared}
use Rattle.spf.proofs.relax.clear.Given as goal

abbrev pub invariant-loop-vertex : goal.invariant-loop-vertex
invariant-loop-vertex l = IsCleared (get l.initial.distances) (take l.vertex-index l.lost) (get l.distances)
