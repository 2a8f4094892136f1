use Rattle.std.proofs.Common.{◌≡◌, ◌++◌, string_bytes, take}
use Rattle.std.specs.List.{flat_map}
use Rattle.area_drawings.specs.Vertices.{drawn_vertex}
use Rattle.area_drawings.proofs.drawn_vertices.put_vertices.Given as goal

abbrev pub invariant-loop-vertex : goal.invariant-loop-vertex
invariant-loop-vertex l = string_bytes l.text ≡ string_bytes l.initial.text ++ flat_map (drawn_vertex l.fn.root) (take l.vertex-index l.vertices)
