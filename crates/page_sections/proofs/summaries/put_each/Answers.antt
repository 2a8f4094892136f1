use Rattle.page_sections.specs.Summaries.{listed_text}
use Rattle.page_sections.proofs.Pieces.{one_more}
use Rattle.page_sections.proofs.summaries.put_each.Goals as goal

pub loop-area-preserved : goal.loop-area-preserved
loop-area-preserved c = one_more listed_text c.args.areas.now c.loop-area.area-index c.area-item.result _ _ _ c.loop-area.invariant c.loop-area-test.true c.area-item.is c.in_ok-put_area.ensures
