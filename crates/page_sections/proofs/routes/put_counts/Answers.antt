use Rattle.page_sections.proofs.Pieces.{five_pieces}
use Rattle.page_sections.proofs.routes.put_counts.Goals as goal

pub returns : goal.returns
returns c = five_pieces _ _ _ _ _ _ _ _ _ _ _ c.in_ok-put_count.ensures c.in_ok-put_count-2.ensures c.in_ok-put_count-3.ensures c.in_ok-put_count-4.ensures c.in_ok-put_count-5.ensures
