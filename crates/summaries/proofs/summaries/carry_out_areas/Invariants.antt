use Rattle.summaries.proofs.Carried.{AreCarriedTo}
use Rattle.summaries.proofs.summaries.carry_out_areas.Given as goal

abbrev pub invariant-loop-place : goal.invariant-loop-place
invariant-loop-place l = AreCarriedTo l.fn.plans l.plans l.fn.lists l.lists l.place
