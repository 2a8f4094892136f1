use Rattle.page_sections.proofs.Pieces.{two_pieces}
use Rattle.page_sections.proofs.summaries.put_due.Goals as goal

pub returns : goal.returns
returns c = two_pieces _ _ _ _ _ c.in_ok-writeln.ensures.bytes c.in_ok-put_list.ensures
