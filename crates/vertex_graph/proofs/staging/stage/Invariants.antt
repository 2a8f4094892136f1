use Rattle.std.proofs.Common.{take}
use Rattle.vertex_graph.specs.Graphs.{handed_of}
use Rattle.graph_links.specs.Sides.{row_ends, ends_after}
use Rattle.vertex_graph.specs.Stagings.{AreTouched}
use Rattle.vertex_graph.proofs.HandedIn.{IsStagedUpTo}
use Rattle.vertex_graph.proofs.staging.stage.Given as goal

abbrev pub invariant-loop-vertex : goal.invariant-loop-vertex
invariant-loop-vertex l = record {
  staged : IsStagedUpTo l.rows.entries l.staging.ends.entries (take l.vertex-index (handed_of l.lsas));
  touched : AreTouched (row_ends l.rows.entries) (ends_after l.rows.entries l.staging.ends.entries) l.staging.touched.items;
}
