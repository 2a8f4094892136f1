use Rattle.page_sections.proofs.Pieces.{five_pieces}
use Rattle.page_sections.proofs.frame.put_beginning.Goals as goal

pub returns : goal.returns
returns c = five_pieces _ _ _ _ _ _ _ _ _ _ _ c.in_ok-put_head.ensures c.in_ok-put_style.ensures c.in_ok-put_title.ensures c.in_ok-put_about.ensures c.in_ok-push_str.ensures.bytes
