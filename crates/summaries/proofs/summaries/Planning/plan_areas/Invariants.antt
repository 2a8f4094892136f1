use Rattle.summaries.specs.Candidates.{dests_in}
use Rattle.summaries.specs.Planning.{ArePlannedTo}
use Rattle.summaries.proofs.summaries.Planning.plan_areas.Given as goal

abbrev pub invariant-loop-place : goal.invariant-loop-place
invariant-loop-place l = ArePlannedTo l.self.inputs.now (dests_in l.self.candidates.now) l.self.inputs.now.areas l.fn.lists l.lists l.plans.items l.place
