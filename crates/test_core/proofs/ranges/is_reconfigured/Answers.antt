-- The ranges stay.
use Rattle.test_core.proofs.ranges.is_reconfigured.Goals as goal

pub reconfigure-requires : goal.reconfigure-requires
reconfigure-requires c = record { before = (_, c.in_ok-active.ensures.kept, λ area r other. (λ w. w, λ w. w)) }
