use Rattle.std.proofs.Common.{arith}
use Rattle.std.proofs.lemmas.Grind.{common_steps}
use Rattle.area_drawings.specs.Vertices.{drawn_vertex}
use Rattle.area_drawings.proofs.drawn_vertices.put_vertex.Goals as goal

pub returns : goal.returns
unfolding drawn_vertex
returns c = grind (arith, common_steps)
