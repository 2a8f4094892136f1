use Rattle.area_drawings.specs.DrawnColumns.{axis_text}
use Rattle.area_drawings.proofs.drawn_columns.put_axis.Goals as goal

pub returns : goal.returns
unfolding axis_text
returns c = c.in_ok-writeln.ensures.bytes
