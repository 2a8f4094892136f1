use Rattle.area_drawings.specs.Pictures.{size_text}
use Rattle.area_drawings.proofs.picture.put_size.Goals as goal

pub returns : goal.returns
unfolding size_text
returns c = c.in_ok-writeln.ensures.bytes
