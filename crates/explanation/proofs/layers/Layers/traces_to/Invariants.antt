use Rattle.std.proofs.Common.{take}
use Rattle.explanation.specs.Traces.{AreTracesTo}
use Rattle.explanation.proofs.layers.Layers.traces_to.Given as goal

-- the traces so far belong to the paths so far
abbrev pub invariant-loop-path : goal.invariant-loop-path
invariant-loop-path l = AreTracesTo l.self.areas.now l.target.area l.target.vertex l.target.advertiser l.target.on.now (take l.path-index l.paths) l.traces.items
