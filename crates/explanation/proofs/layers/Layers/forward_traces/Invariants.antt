use Rattle.std.proofs.Common.{take}
use Rattle.explanation.specs.Giving.{AreOfEach}
use Rattle.explanation.specs.Outside.{GivesOnward}
use Rattle.explanation.proofs.layers.Layers.forward_traces.Given as goal

-- the traces so far go on from those up to here
abbrev pub invariant-loop-inner : goal.invariant-loop-inner
invariant-loop-inner l = AreOfEach (GivesOnward l.forwarded.address l.forwarded.offer.now l.forwarded.paths.now l.network) (take l.inner-index l.inner-items) l.traces.items
