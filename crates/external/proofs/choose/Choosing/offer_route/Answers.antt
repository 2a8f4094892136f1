use Rattle.std.proofs.Common.{◌≡◌, ◌<◌, List, Option, Some, None, sym, ap, subst, ◌∙◌, arith}
use Rattle.std.specs.FinMap as map
use Rattle.std.proofs.lemmas.Result.{on_ok_weaker}
use Rattle.ospf_types.specs.declared.hop.NextHop.{NextHop}
use Rattle.external.specs.Choosing.{TakesPaths, PathsOffer, LeadsOffer}
use Rattle.external.specs.Forwards.{ForwardValue, ForwardsByAddress}
use Rattle.external.specs.Offers.{ForwardLeads, preference_of}
use Rattle.external.proofs.ExternalOffers.{takes_over, takes_nowhere, takes_direct, takes_forwarded}
use Rattle.external.proofs.choose.Choosing.offer_route.Goals as goal

pub returns-then-forwarding-eq0 : goal.returns-then-forwarding-eq0
returns-then-forwarding-eq0 c =
    let e = c.args.entry.now in
    let forwards : ForwardsByAddress = map.from_entries c.args.self.now.forwards.now.entries in
    let at : c.of-at.result ≡ preference_of c.args.route e.preference.class e.preference.cost = c.of-at.ensures ∙ (λ i. preference_of c.args.route (c.class.ensures i) (c.cost.ensures.value i)) in
    on_ok_weaker c.offer_hops.result
    (λ takes. takes_direct e c.args.key c.args.route (map.get forwards c.args.route.forwarding) (sym c.forwarding.ensures ∙ c.if-forwarding-eq0.true) c.args.best.now c.offer_hops.new.best
    (takes_over c.args.key.router c.args.route e.preference.class e.preference.cost e.hops c.of-at.result at c.args.best.now c.offer_hops.new.best
    (subst (λ (hops : List NextHop). TakesPaths (PathsOffer hops c.args.key.router c.of-at.result) c.args.best.now c.offer_hops.new.best) c.hops.ensures takes)))
    c.offer_hops.ensures

pub returns-in-Some : goal.returns-in-Some
returns-in-Some c =
    let forwards : ForwardsByAddress = map.from_entries c.args.self.now.forwards.now.entries in
    let is : Some c.in-Some.forward.now ≡ map.get forwards c.args.route.forwarding = c.in-Some.ensures.value ∙ ap (map.get forwards) c.forwarding-2.ensures in
    let some : 0 < c.args.route.forwarding = (let other = c.if-forwarding-eq0.false in let same = c.forwarding.ensures in omega (arith, other, same)) in
    on_ok_weaker c.offer_forward.result
    (λ takes. takes_forwarded c.args.entry.now c.args.key c.args.route (map.get forwards c.args.route.forwarding) some c.args.best.now c.offer_forward.new.best
    (subst (λ (o : Option ForwardValue). TakesPaths (LeadsOffer (ForwardLeads o) c.args.key.router c.args.route) c.args.best.now c.offer_forward.new.best) is takes))
    c.offer_forward.ensures

pub returns-in-None : goal.returns-in-None
returns-in-None c =
    let forwards : ForwardsByAddress = map.from_entries c.args.self.now.forwards.now.entries in
    let is : None ≡ map.get forwards c.args.route.forwarding = c.in-None.ensures.value ∙ ap (map.get forwards) c.forwarding-2.ensures in
    let some : 0 < c.args.route.forwarding = (let other = c.if-forwarding-eq0.false in let same = c.forwarding.ensures in omega (arith, other, same)) in
    takes_forwarded c.args.entry.now c.args.key c.args.route (map.get forwards c.args.route.forwarding) some c.args.best.now c.args.best.now
    (takes_nowhere c.args.key.router c.args.route (ForwardLeads (map.get forwards c.args.route.forwarding))
    (λ class x h leads. subst (λ (o : Option ForwardValue). ForwardLeads o class x h) (sym is) leads)
    c.args.best.now)
