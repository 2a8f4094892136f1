use Rattle.area_drawings.specs.Vertices.{circle_start}
use Rattle.area_drawings.proofs.drawn_vertices.put_circle_start.Goals as goal

pub returns : goal.returns
unfolding circle_start
returns c = c.in_ok-write.ensures.bytes
