use Rattle.route_choice.specs.Takes.{OnlyOffer}
use Rattle.route_choice.proofs.Taking.{takes_at, takes_past}
use Rattle.external.proofs.preferred.offer_hops.Goals as goal

pub loop-hop-preserved : goal.loop-hop-preserved
loop-hop-preserved c = λ new rest.
    c.loop-hop.invariant new (takes_at (OnlyOffer c.args.key) c.args.hops.now c.loop-hop.hop-index _ c.loop-hop.best c.offer_hop.new.best new c.loop-hop-test.true c.in_ok-offer_hop.ensures rest)

pub returns : goal.returns
returns c = c.loop-hop.invariant c.loop-hop.best (takes_past (OnlyOffer c.args.key) c.args.hops.now c.loop-hop.hop-index c.loop-hop.best c.loop-hop-test.false)
