use Rattle.std.proofs.Common.{take}
use Rattle.explanation.specs.Judging.{IsLeastKey}
use Rattle.explanation.proofs.layers.Layers.least_key.Given as goal

-- the least key of the offers so far
abbrev pub invariant-loop-offer : goal.invariant-loop-offer
invariant-loop-offer l = IsLeastKey l.self (take l.offer-index l.offers) l.least
