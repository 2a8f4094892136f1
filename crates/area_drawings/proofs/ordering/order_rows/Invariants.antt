use Rattle.std.proofs.Common.{take}
use Rattle.std.specs.List.Sorted.{IsPermutation}
use Rattle.area_drawings.proofs.ordering.order_rows.Given as goal

abbrev pub invariant-loop-vertex : goal.invariant-loop-vertex
invariant-loop-vertex l = IsPermutation (take l.vertex-index l.reached) l.ordered.items
