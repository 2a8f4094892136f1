use Rattle.std.proofs.Common.{take}
use Rattle.explanation.specs.Traces.{AreOwnTraces}
use Rattle.explanation.proofs.layers.Layers.own_traces.Given as goal

-- the traces so far belong to the paths so far
abbrev pub invariant-loop-path : goal.invariant-loop-path
invariant-loop-path l = AreOwnTraces l.self l.area l.offer (take l.path-index l.paths) l.traces.items
