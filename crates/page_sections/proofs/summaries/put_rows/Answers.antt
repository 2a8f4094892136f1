use Rattle.page_sections.specs.Summaries.{row_text}
use Rattle.page_sections.proofs.Pieces.{one_more}
use Rattle.page_sections.proofs.summaries.put_rows.Goals as goal

pub loop-due-preserved : goal.loop-due-preserved
loop-due-preserved c = one_more row_text c.args.list.now c.loop-due.due-index c.due-item.result _ _ _ c.loop-due.invariant c.loop-due-test.true c.due-item.is c.in_ok-put_row.ensures
