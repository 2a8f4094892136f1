use Rattle.area_drawings.specs.Layout.{text_start}
use Rattle.area_drawings.proofs.layout.put_text_start.Goals as goal

pub returns : goal.returns
unfolding text_start
returns c = c.in_ok-write.ensures.bytes
