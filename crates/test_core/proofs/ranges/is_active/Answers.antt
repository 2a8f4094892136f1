-- The routes stay.
use Rattle.std.proofs.Common.{refl}
use Rattle.test_core.proofs.ranges.is_active.Goals as goal

pub update-requires : goal.update-requires
update-requires c = record { before = (c.args.intra.now.entries, c.in_ok-active.ensures.kept, λ p absent. refl) }
