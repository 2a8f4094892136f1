use Rattle.area_drawings.specs.Vertices.{rectangle_start}
use Rattle.area_drawings.proofs.drawn_vertices.put_rectangle_start.Goals as goal

pub returns : goal.returns
unfolding rectangle_start
returns c = c.in_ok-write.ensures.bytes
