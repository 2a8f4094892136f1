use Rattle.std.proofs.Common.{take}
use Rattle.explanation.specs.Giving.{AreOfEach}
use Rattle.explanation.specs.Outside.{GivesTold}
use Rattle.explanation.proofs.layers.Layers.told_traces.Given as goal

-- the traces so far belong to the paths so far
abbrev pub invariant-loop-within : goal.invariant-loop-within
invariant-loop-within l = AreOfEach (GivesTold l.self l.told.area l.told.offer.now l.told.paths.now) (take l.within-index l.within-items) l.traces.items
