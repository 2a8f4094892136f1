use Rattle.std.proofs.Common.{◌≡◌, map, take}
use Rattle.std.specs.List.{All}
use Rattle.area_drawings.specs.Drawings.{IsTreeDrawn, stand_of}
use Rattle.area_drawings.proofs.vertices.draw_vertices.Given as goal

abbrev pub invariant-loop-stand : goal.invariant-loop-stand
invariant-loop-stand l = (map stand_of l.vertices ≡ take l.stand-index l.stands) × All (IsTreeDrawn l.database.lsas l.tree) l.vertices
