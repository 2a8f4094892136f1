use Rattle.std.proofs.Common.{◌≡◌, drop}
use Rattle.summaries.specs.DueSummaries.{list_in}
use Rattle.summaries.proofs.summaries.DueSummaries.get.Given as goal

abbrev pub invariant-loop-summaries : goal.invariant-loop-summaries
invariant-loop-summaries l = list_in (drop l.summaries-index l.summaries-items) l.area ≡ list_in l.summaries-items l.area
