use Rattle.std.proofs.Common.{◌≡◌, take}
use Rattle.std.specs.List.{filter_map}
use Rattle.area_drawings.specs.Reaching.{reached_by}
use Rattle.area_drawings.proofs.reached.each_reached.Given as goal

abbrev pub invariant-loop-vertex : goal.invariant-loop-vertex
invariant-loop-vertex l = l.reached.items ≡ filter_map (reached_by l.tree) (take l.vertex-index l.vertices)
