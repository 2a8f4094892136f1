use Rattle.std.proofs.Common.{arith}
use Rattle.std.proofs.lemmas.Grind.{common_steps}
use Rattle.area_drawings.specs.Vertices.{vertex_title}
use Rattle.area_drawings.proofs.drawn_vertices.put_title.Goals as goal

pub returns : goal.returns
unfolding vertex_title
returns c = grind (arith, common_steps)
