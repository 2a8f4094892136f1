use Rattle.std.specs.FinMap as map
use Rattle.route_choice.proofs.Taking.{takes_at, takes_past}
use Rattle.external.specs.Choosing.{KeyOffers}
use Rattle.external.proofs.choose.Choosing.offer_keys.Goals as goal

pub loop-key-preserved : goal.loop-key-preserved
loop-key-preserved c = λ new rest.
    let offers = KeyOffers c.args.self.now.index.now.routes (map.from_entries c.args.self.now.preferred.now.entries) (map.from_entries c.args.self.now.forwards.now.entries) in
    c.loop-key.invariant new (takes_at offers c.args.keys.now c.loop-key.key-index _ c.loop-key.best c.offer_key.new.best new c.loop-key-test.true c.in_ok-offer_key.ensures rest)

pub returns : goal.returns
returns c =
    let offers = KeyOffers c.args.self.now.index.now.routes (map.from_entries c.args.self.now.preferred.now.entries) (map.from_entries c.args.self.now.forwards.now.entries) in
    c.loop-key.invariant c.loop-key.best (takes_past offers c.args.keys.now c.loop-key.key-index c.loop-key.best c.loop-key-test.false)
