use Rattle.page_sections.proofs.Pieces.{two_pieces}
use Rattle.page_sections.proofs.routes.put_paths.Goals as goal

pub returns : goal.returns
returns c = two_pieces _ _ _ _ _ c.in_ok-push_str.ensures.bytes c.in_ok-put_each.ensures
