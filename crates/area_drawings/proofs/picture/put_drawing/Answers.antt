use Rattle.std.proofs.Common.{arith}
use Rattle.std.proofs.lemmas.Grind.{common_steps}
use Rattle.area_drawings.specs.Pictures.{drawing_text}
use Rattle.area_drawings.proofs.picture.put_drawing.Goals as goal

pub returns : goal.returns
unfolding drawing_text
returns c = grind (arith, common_steps)
