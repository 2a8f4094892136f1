use Rattle.std.proofs.Common.{◌≡◌, take}
use Rattle.explanation.specs.Groups.{offers_for}
use Rattle.explanation.proofs.all_offers.of_network.Given as goal

-- those of the network among the offers up to here
abbrev pub invariant-loop-offer : goal.invariant-loop-offer
invariant-loop-offer l = l.found.items ≡ offers_for l.network (take l.offer-index l.offers)
