use Rattle.ospf_types.specs.declared.hop.NextHop.{NextHop}
use Rattle.route_choice.specs.Takes.{OnlyOffer, path_over}
use Rattle.route_choice.proofs.Taking.{takes_at, takes_past}
use Rattle.route_choice.proofs.choice.offer_hops.Goals as goal

pub loop-hop-preserved : goal.loop-hop-preserved
loop-hop-preserved g c = λ new rest.
    c.loop-hop.invariant new (takes_at (λ (h : NextHop). OnlyOffer c.args.key (path_over c.args.advertiser h)) c.args.hops.now c.loop-hop.hop-index _ c.loop-hop.best c.offer_hop.new.best new c.loop-hop-test.true c.in_ok-offer_hop.ensures rest)

pub returns : goal.returns
returns g c =
    c.loop-hop.invariant c.loop-hop.best (takes_past (λ (h : NextHop). OnlyOffer c.args.key (path_over c.args.advertiser h)) c.args.hops.now c.loop-hop.hop-index c.loop-hop.best c.loop-hop-test.false)
