use Rattle.summary_lists.proofs.Parts.{ordered_last}
use Rattle.summary_lists.proofs.Merging.{merging_at}
use Rattle.summary_lists.proofs.list.AreaSummaries.merged.Goals as goal

pub push_before-requires : goal.push_before-requires
push_before-requires c = ordered_last c.loop-dest.list.items c.loop-dest.rest.now c.loop-dest.invariant.in_order

pub loop-dest-preserved : goal.loop-dest-preserved
loop-dest-preserved c =
    merging_at _ _ c.loop-dest.dest-index c.loop-dest.list.items c.loop-dest.rest.now _ _ _ c.loop-dest-item.result c.loop-dest-test.true c.loop-dest-item.is
    c.in_ok-rest.ensures.pushed c.in_ok-rest.ensures.left c.in_ok-push_at.ensures c.loop-dest.invariant
