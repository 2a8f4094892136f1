use Rattle.std.proofs.Common.{arith}
use Rattle.prefix_index.proofs.slots.number.Goals as goal

pub overflow_cast-result : goal.overflow_cast-result
overflow_cast-result c = omega (arith, c.base.ensures.bound, c.requires)
