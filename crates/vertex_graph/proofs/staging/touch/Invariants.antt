use Rattle.std.proofs.Common.{take}
use Rattle.vertex_graph.specs.Stagings.{AreVerticesWithin, TouchesOthers}
use Rattle.vertex_graph.proofs.staging.touch.Given as goal

abbrev pub invariant-loop-place : goal.invariant-loop-place
invariant-loop-place l = record {
  kept : AreVerticesWithin l.fn.touched.items l.touched.items;
  others : TouchesOthers (take l.place l.ends) l.others.ends.now l.touched.items;
}
