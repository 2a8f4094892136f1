-- This many destinations have their candidates.
use Rattle.std.proofs.Common.{◌≡◌, take}
use Rattle.summaries.specs.Candidates.{AreSummaryCandidates, dests_in}
use Rattle.summaries.proofs.summaries.find_candidates.Given as goal

abbrev pub invariant-loop-dest : goal.invariant-loop-dest
invariant-loop-dest l = (dests_in l.found.items ≡ take l.dest-index l.dests) × AreSummaryCandidates l.inputs l.found.items
