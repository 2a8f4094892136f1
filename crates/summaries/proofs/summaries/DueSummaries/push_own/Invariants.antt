use Rattle.std.proofs.Common.{◌≡◌, ◌++◌, take}
use Rattle.std.specs.List.{flat_map}
use Rattle.summaries.specs.DueSummaries.{dests_of}
use Rattle.summaries.proofs.summaries.DueSummaries.push_own.Given as goal

abbrev pub invariant-loop-summaries : goal.invariant-loop-summaries
invariant-loop-summaries l = l.dests.items ≡ l.fn.dests.items ++ flat_map dests_of (take l.summaries-index l.summaries-items)
