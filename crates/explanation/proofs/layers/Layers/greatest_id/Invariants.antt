use Rattle.std.proofs.Common.{take}
use Rattle.explanation.specs.Judging.{IsGreatestId}
use Rattle.explanation.proofs.layers.Layers.greatest_id.Given as goal

-- it is one of the offers up to here
abbrev pub invariant-loop-offer : goal.invariant-loop-offer
invariant-loop-offer l = IsGreatestId l.self l.entry (take l.offer-index l.offers) l.greatest
