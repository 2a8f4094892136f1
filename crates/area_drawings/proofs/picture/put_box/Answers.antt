use Rattle.area_drawings.specs.Pictures.{box_text}
use Rattle.area_drawings.proofs.picture.put_box.Goals as goal

pub returns : goal.returns
unfolding box_text
returns c = c.in_ok-write.ensures.bytes
