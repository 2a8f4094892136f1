-- All sources are those settled so far, and those that are left.
use Rattle.std.proofs.Common.{◌≡◌, ◌++◌, map, take, drop}
use Rattle.due_explanation.specs.Sources.{settled}
use Rattle.due_explanation.proofs.sources.settle_all.Given as goal

abbrev pub invariant-loop-source : goal.invariant-loop-source
invariant-loop-source l = take l.source-index l.sources ++ map (settled l.area l.metric) (drop l.source-index l.sources) ≡ map (settled l.area l.metric) l.initial.sources
