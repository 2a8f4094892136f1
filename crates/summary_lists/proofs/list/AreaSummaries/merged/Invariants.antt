use Rattle.std.proofs.Common.{drop}
use Rattle.summary_lists.proofs.Merging.{IsMerging}
use Rattle.summary_lists.proofs.list.AreaSummaries.merged.Given as goal

abbrev pub invariant-loop-dest : goal.invariant-loop-dest
invariant-loop-dest l = IsMerging l.metrics l.fn.self.list (drop l.dest-index l.metrics) l.list.items l.rest
