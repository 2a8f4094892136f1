use Rattle.std.proofs.Common.{sym}
use Rattle.std.specs.FinMap as map
use Rattle.std.proofs.lemmas.Result.{on_ok_weaker}
use Rattle.external.proofs.ExternalOffers.{takes_key, takes_unadvertised, takes_unreached}
use Rattle.external.proofs.choose.Choosing.offer_key.Goals as goal

pub returns-in_default : goal.returns-in_default
returns-in_default c =
    takes_unadvertised c.args.self.now.index.now (map.from_entries c.args.self.now.preferred.now.entries) (map.from_entries c.args.self.now.forwards.now.entries) c.args.key (sym c.in_default.ensures) c.args.best.now

pub returns-in-Some-get : goal.returns-in-Some-get
returns-in-Some-get c =
    on_ok_weaker c.offer_route.result
    (takes_key c.args.self.now.index.now (map.from_entries c.args.self.now.preferred.now.entries) (map.from_entries c.args.self.now.forwards.now.entries) c.args.key c.in-Some.route.now c.in-Some-get.entry.now (sym c.in-Some.ensures) (sym c.in-Some-get.ensures.value) c.args.best.now c.offer_route.new.best)
    c.offer_route.ensures

pub returns-in-None : goal.returns-in-None
returns-in-None c =
    takes_unreached c.args.self.now.index.now (map.from_entries c.args.self.now.preferred.now.entries) (map.from_entries c.args.self.now.forwards.now.entries) c.args.key (sym c.in-None.ensures.value) c.args.best.now
