use Rattle.std.proofs.Common.{take}
use Rattle.explanation.specs.Outside.{AreMatched}
use Rattle.explanation.proofs.layers.Layers.matched_networks.Given as goal

-- the longest matches of the offers up to here are there
abbrev pub invariant-loop-offer : goal.invariant-loop-offer
invariant-loop-offer l = AreMatched l.self l.networks.items (take l.offer-index l.offers)
