use Rattle.std.proofs.Common.{arith}
use Rattle.area_drawings.proofs.columns.place_of.Goals as goal

pub unreachable-requires : goal.unreachable-requires
unreachable-requires c = c.loop-place.invariant c.requires.0 (omega (arith, c.requires.1)) c.requires.2
