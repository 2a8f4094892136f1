use Rattle.std.specs.FinMap.{entries}
use Rattle.page_sections.specs.Ranges.{range_text}
use Rattle.page_sections.proofs.Pieces.{one_more}
use Rattle.page_sections.proofs.ranges.put_each.Goals as goal

pub loop-range-preserved : goal.loop-range-preserved
loop-range-preserved c =
    one_more (range_text (entries c.args.table.now.items) c.args.area) c.args.ranges.now c.loop-range.range-index c.range-item.result _ _ _ c.loop-range.invariant c.loop-range-test.true c.range-item.is c.in_ok-put_range.ensures
