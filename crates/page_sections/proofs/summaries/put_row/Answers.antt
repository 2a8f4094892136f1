use Rattle.page_sections.proofs.Pieces.{three_pieces}
use Rattle.page_sections.proofs.summaries.put_row.Goals as goal

pub returns : goal.returns
returns c = three_pieces _ _ _ _ _ _ _ c.in_ok-write.ensures.bytes c.in_ok-put_dest.ensures c.in_ok-writeln.ensures.bytes
