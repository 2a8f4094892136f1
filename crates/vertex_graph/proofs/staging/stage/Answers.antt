use Rattle.graph_links.specs.Sides.{row_ends, ends_after}
use Rattle.vertex_graph.proofs.HandedIn.{slice_none, is_new, slice_more, slice_all, touched_alike}
use Rattle.vertex_graph.proofs.staging.stage.Goals as goal

pub loop-vertex-init : goal.loop-vertex-init
loop-vertex-init c =
    let none = slice_none c.args.rows.now.entries c.clear.new.self.ends.entries c.clear.new.self.touched.items c.clear.ensures.ends in
    record { staged = none.0; touched = none.1 }

pub stage_one-requires-clause-new : goal.stage_one-requires-clause-new
stage_one-requires-clause-new c =
    is_new c.args.rows.now.entries c.args.lsas.now c.loop-vertex.vertex-index c.loop-vertex-item.result c.loop-vertex.staging.ends.entries c.requires.apart c.loop-vertex-test.true c.loop-vertex-item.is c.loop-vertex.invariant.staged

pub stage_one-requires-clause-touched : goal.stage_one-requires-clause-touched
stage_one-requires-clause-touched c = c.loop-vertex.invariant.touched

pub loop-vertex-preserved : goal.loop-vertex-preserved
loop-vertex-preserved c = record {
  staged = slice_more c.args.rows.now.entries c.args.lsas.now c.loop-vertex.vertex-index c.loop-vertex-item.result c.loop-vertex.staging.ends.entries c.requires.apart c.loop-vertex-test.true c.loop-vertex-item.is c.loop-vertex.invariant.staged
      _ c.stage_one.new.staging.ends.entries c.in_ok-ends.ensures c.in_ok-stage_one.ensures.ends;
  touched = c.in_ok-stage_one.ensures.touched;
}

pub returns-clause-handed : goal.returns-clause-handed
returns-clause-handed c = slice_all c.args.rows.now.entries c.args.lsas.now c.loop-vertex.vertex-index c.loop-vertex.staging.ends.entries c.loop-vertex-test.false c.loop-vertex.invariant.staged

pub returns-clause-touched : goal.returns-clause-touched
returns-clause-touched c =
    let rows = c.args.rows.now.entries in
    touched_alike (row_ends rows) (ends_after rows c.loop-vertex.staging.ends.entries) c.loop-vertex.staging.touched.items c.keep_once.new.touched.items c.loop-vertex.invariant.touched c.keep_once.ensures.same
