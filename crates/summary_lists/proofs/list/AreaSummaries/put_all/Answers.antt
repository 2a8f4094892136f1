use Rattle.std.proofs.Common.{◌∙◌, arith}
use Rattle.summary_lists.proofs.Changing.{next_left_at}
use Rattle.summary_lists.proofs.list.AreaSummaries.put_all.Goals as goal

pub loop-dest-preserved : goal.loop-dest-preserved
loop-dest-preserved c = record {
  area = c.put-near.ensures.area ∙ c.loop-dest.invariant.area;
  changes = next_left_at _ _ _ _ c.loop-dest.dest-index c.loop-dest-item.result c.loop-dest-test.true c.loop-dest-item.is c.put-near.ensures.list c.loop-dest.invariant.changes;
  room = omega arith;
}
