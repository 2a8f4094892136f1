use Rattle.std.proofs.Common.{arith}
use Rattle.captures.proofs.Units.{units_pos}
use Rattle.captures.proofs.time.Resolution.nanoseconds.Goals as goal

pub nonzero_div-result : goal.nonzero_div-result
nonzero_div-result c = omega (arith, c.in-Some.ensures.1, units_pos c.args.self)
