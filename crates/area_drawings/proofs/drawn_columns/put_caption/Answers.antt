use Rattle.std.proofs.Common.{rules}
use Rattle.area_drawings.specs.DrawnColumns.{caption_text}
use Rattle.area_drawings.proofs.drawn_columns.put_caption.Goals as goal

pub returns : goal.returns
unfolding caption_text
returns c = search rules
