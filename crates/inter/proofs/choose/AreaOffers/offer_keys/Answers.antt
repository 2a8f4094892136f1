use Rattle.route_choice.proofs.Taking.{takes_at, takes_past}
use Rattle.inter.specs.Choosing.{KeyOffers}
use Rattle.inter.proofs.choose.AreaOffers.offer_keys.Goals as goal

pub loop-key-preserved : goal.loop-key-preserved
loop-key-preserved c = λ new rest.
    c.loop-key.invariant new (takes_at (KeyOffers c.args.self.intra.now.areas c.args.self.area c.args.self.index.now) c.args.keys.now c.loop-key.key-index _ c.loop-key.best c.offer_key.new.best new c.loop-key-test.true c.in_ok-offer_key.ensures rest)

pub returns : goal.returns
returns c =
    c.loop-key.invariant c.loop-key.best (takes_past (KeyOffers c.args.self.intra.now.areas c.args.self.area c.args.self.index.now) c.args.keys.now c.loop-key.key-index c.loop-key.best c.loop-key-test.false)
