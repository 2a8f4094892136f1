use Rattle.ospf_types.specs.declared.hop.Path.{Path}
use Rattle.route_choice.specs.Takes.{OnlyOffer}
use Rattle.route_choice.proofs.Taking.{takes_at, takes_past}
use Rattle.external.proofs.preferred.offer_paths.Goals as goal

pub loop-path-preserved : goal.loop-path-preserved
loop-path-preserved c = λ new rest.
    c.loop-path.invariant new (takes_at (λ (path : Path). OnlyOffer c.args.key path.hop) c.args.paths.now c.loop-path.path-index _ c.loop-path.best c.offer_hop.new.best new c.loop-path-test.true c.in_ok-offer_hop.ensures rest)

pub returns : goal.returns
returns c = c.loop-path.invariant c.loop-path.best (takes_past (λ (path : Path). OnlyOffer c.args.key path.hop) c.args.paths.now c.loop-path.path-index c.loop-path.best c.loop-path-test.false)
