use Rattle.std.proofs.Common.{take}
use Rattle.explanation.specs.Giving.{AreOfEach}
use Rattle.explanation.specs.Outside.{GivesTaken}
use Rattle.explanation.proofs.layers.Layers.network_traces.Given as goal

-- the traces so far are those by the offers up to here
abbrev pub invariant-loop-by : goal.invariant-loop-by
invariant-loop-by l = AreOfEach (GivesTaken l.self) (take l.by-index l.offers) l.traces.items
