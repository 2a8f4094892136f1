-- The greatest of the metrics up to here.
use Rattle.std.proofs.Common.{take}
use Rattle.summaries.specs.Giving.{IsMost}
use Rattle.due_explanation.specs.Sources.{GivesAmong}
use Rattle.due_explanation.proofs.sources.greatest_into.Given as goal

abbrev pub invariant-loop-source : goal.invariant-loop-source
invariant-loop-source l = IsMost (GivesAmong l.area (take l.source-index l.sources)) l.most
