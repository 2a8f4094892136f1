-- The route that is advertised under the key, part by part.
use Rattle.std.proofs.Common.{◌≡◌, ℕ, ◌+◌, List, true, sym, subst, ◌∙◌}
use Rattle.std.proofs.lemmas.Result.{on_ok_weaker}
use Rattle.ospf_types.specs.declared.hop.NextHop.{NextHop}
use Rattle.inter.specs.Choosing.{TakesPaths, HopsOffer}
use Rattle.inter.proofs.Chosen.{takes_no_route, takes_unreached, takes_no_border, takes_border}
use Rattle.inter.proofs.choose.AreaOffers.offer_key.Goals as goal

pub returns-in_default : goal.returns-in_default
returns-in_default c = takes_no_route c.args.self.intra.now.areas c.args.self.area c.args.self.index.now c.args.key c.args.best.now (sym c.in_default.ensures)

pub returns-in_default-router : goal.returns-in_default-router
returns-in_default-router c = takes_unreached c.args.self.intra.now.areas c.args.self.area c.args.self.index.now c.args.key c.args.best.now (sym c.in_default-router.ensures)

pub returns-then-not-is_abr : goal.returns-then-not-is_abr
returns-then-not-is_abr c =
    takes_no_border c.args.self.intra.now.areas c.args.self.area c.args.self.index.now c.args.key c.in-Some-router.border.now (sym c.in-Some-router.ensures) c.args.best.now
    (λ lt. let e : true ≡ _ = sym (c.is_abr.ensures.1 lt) ∙ c.if-not-is_abr.true in absurd cc)

pub returns : goal.returns
returns c =
    let r = c.in-Some-router.border.now in
    let a = c.in-Some.route.now in
    let cost : c.new-cost.result ≡ r.distance + a.metric = c.new-cost.ensures ∙ (λ i. c.distance.ensures.value i + c.metric.ensures.value i) in
    on_ok_weaker c.offer_hops.result
    (λ takes. takes_border c.args.self.intra.now.areas c.args.self.area c.args.self.index.now c.args.key r (sym c.in-Some-router.ensures) a c.args.best.now c.offer_hops.new.best (sym c.in-Some.ensures) (c.is_abr.ensures.0 c.if-not-is_abr.false)
    (subst (λ (hops : List NextHop). TakesPaths (HopsOffer hops c.args.key.router (r.distance + a.metric)) c.args.best.now c.offer_hops.new.best) c.hops.ensures
    (subst (λ (n : ℕ). TakesPaths (HopsOffer c.hops.result.now c.args.key.router n) c.args.best.now c.offer_hops.new.best) cost takes)))
    c.offer_hops.ensures
