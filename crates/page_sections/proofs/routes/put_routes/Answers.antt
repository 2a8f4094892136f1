use Rattle.page_sections.proofs.Pieces.{five_pieces}
use Rattle.page_sections.proofs.routes.put_routes.Goals as goal

pub returns : goal.returns
returns c = five_pieces _ _ _ _ _ _ _ _ _ _ _ c.in_ok-push_str.ensures.bytes c.in_ok-put_counts.ensures c.in_ok-push_str-2.ensures.bytes c.in_ok-put_rows.ensures c.in_ok-push_str-3.ensures.bytes
