use Rattle.summaries.proofs.Unserved.{none_more}
use Rattle.summaries.proofs.summaries.DueSummaries.none.Goals as goal

pub loop-area-preserved : goal.loop-area-preserved
loop-area-preserved c v nowhere =
    none_more v nowhere c.args.areas.now c.loop-area.lists.items c.push.new.self.items c.loop-area.area-index c.area-item.result c.none.result c.loop-area-test.true c.area-item.is
    c.none.ensures.area c.none.ensures.list c.in_ok-push.ensures.items (c.loop-area.invariant v nowhere)
