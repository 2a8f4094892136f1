use Rattle.std.proofs.Common.{drop}
use Rattle.summary_lists.proofs.Parts.{IsLeft}
use Rattle.summaries.specs.Candidates.{dests_in}
use Rattle.summaries.proofs.Comparing.{AreComparedTo}
use Rattle.summaries.proofs.summaries.Planning.changes.Given as goal

abbrev pub invariant-loop-candidate : goal.invariant-loop-candidate
invariant-loop-candidate l =
    AreComparedTo l.self.inputs.now l.area l.list (dests_in l.self.candidates.now) l.metrics.items l.candidate-index × IsLeft l.list l.rest (drop l.candidate-index (dests_in l.self.candidates.now))
