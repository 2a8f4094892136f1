use Rattle.std.proofs.Common.{Option, sym, subst}
use Rattle.std.proofs.lemmas.Result.{on_ok_weaker}
use Rattle.external.specs.Choosing.{TakesPaths, LeadsOffer}
use Rattle.external.specs.Forwards.{WayValue, WayOffers}
use Rattle.external.proofs.ExternalOffers.{takes_nowhere}
use Rattle.external.proofs.choose.offer_forward.Goals as goal

pub returns-in-Some : goal.returns-in-Some
returns-in-Some c =
    on_ok_weaker c.offer_way.result
    (λ takes. subst (λ (o : Option WayValue). TakesPaths (LeadsOffer (WayOffers o) c.args.router c.args.route) c.args.best.now c.offer_way.new.best) c.in-Some.ensures takes)
    c.offer_way.ensures

pub returns-in-None : goal.returns-in-None
returns-in-None c =
    takes_nowhere c.args.router c.args.route (WayOffers c.args.forward.now.way)
    (λ class x h leads. subst (λ (o : Option WayValue). WayOffers o class x h) (sym c.in-None.ensures) leads)
    c.args.best.now
