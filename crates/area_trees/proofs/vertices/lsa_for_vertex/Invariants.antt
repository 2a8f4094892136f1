use Rattle.std.proofs.Common.{take}
use Rattle.vertex_graph.specs.Graphs.{handed_of}
use Rattle.area_trees.specs.Areas.{AreStanding}
use Rattle.area_trees.proofs.vertices.lsa_for_vertex.Given as goal

abbrev pub invariant-loop-vertex : goal.invariant-loop-vertex
invariant-loop-vertex l = AreStanding l.database.lsas (take l.vertex-index l.vertices) (handed_of l.handed.items)
