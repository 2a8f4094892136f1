use Rattle.std.proofs.Common.{take}
use Rattle.explanation.specs.Explained.{AreNetworks}
use Rattle.explanation.proofs.explained.networks_of.Given as goal

-- the networks of the offers up to here are there
abbrev pub invariant-loop-offer : goal.invariant-loop-offer
invariant-loop-offer l = AreNetworks (take l.offer-index l.offers) l.networks.items
