use Rattle.page_sections.proofs.Pieces.{four_pieces}
use Rattle.page_sections.proofs.areas.put_area_heading.Goals as goal

pub returns : goal.returns
returns c = four_pieces _ _ _ _ _ _ _ _ _ c.in_ok-write.ensures.bytes c.in_ok-write-2.ensures.bytes c.in_ok-put_stub.ensures c.in_ok-push_str.ensures.bytes
