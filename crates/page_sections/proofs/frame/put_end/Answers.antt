use Rattle.page_sections.proofs.Pieces.{three_pieces}
use Rattle.page_sections.proofs.frame.put_end.Goals as goal

pub returns : goal.returns
returns c = three_pieces _ _ _ _ _ _ _ c.in_ok-push_str.ensures.bytes c.in_ok-push_str-2.ensures.bytes c.in_ok-push_str-3.ensures.bytes
