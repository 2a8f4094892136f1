use Rattle.std.specs.FinMap.{entries}
use Rattle.page_sections.specs.Ranges.{area_text}
use Rattle.page_sections.proofs.Pieces.{one_more}
use Rattle.page_sections.proofs.ranges.put_all.Goals as goal

pub loop-area-preserved : goal.loop-area-preserved
loop-area-preserved c =
    one_more (area_text (entries c.args.table.now.items)) c.args.areas.now c.loop-area.area-index c.area-item.result _ _ _ c.loop-area.invariant c.loop-area-test.true c.area-item.is c.in_ok-put_area.ensures
