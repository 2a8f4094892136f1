use Rattle.std.proofs.Common.{◌≡◌, ◌+◌, ℕ, List, drop, ap, sym, subst}
use Rattle.route_choice.specs.Takes.{OfferedBySome}
use Rattle.route_choice.proofs.Taking.{takes_at, takes_past}
use Rattle.external.specs.Choosing.{TakesHops}
use Rattle.external.specs.Inputs.{ExternalInputsValue}
use Rattle.external.specs.AsbrRoute.{ReachedOffers}
use Rattle.external.proofs.preferred.offer_areas.Goals as goal

pub loop-area-preserved : goal.loop-area-preserved
loop-area-preserved c = λ new rest.
    let same : c.inputs.inside.areas.now ≡ c.args.inputs.now.areas = ap (λ (v : ExternalInputsValue). v.areas) c.inputs.view_is in
    let offers = ReachedOffers c.args.inputs.now c.args.router in
    let k = c.loop-area.area-index in
    c.loop-area.invariant new
    (subst (λ (xs : List ℕ). TakesHops (OfferedBySome (drop k xs) offers) c.loop-area.best new) same
    (takes_at offers c.inputs.inside.areas.now k _ c.loop-area.best c.offer_area.new.best new c.loop-area-test.true c.in_ok-offer_area.ensures
    (subst (λ (xs : List ℕ). TakesHops (OfferedBySome (drop (k + 1) xs) offers) c.offer_area.new.best new) (sym same) rest)))

pub returns : goal.returns
returns c =
    let same : c.inputs.inside.areas.now ≡ c.args.inputs.now.areas = ap (λ (v : ExternalInputsValue). v.areas) c.inputs.view_is in
    let offers = ReachedOffers c.args.inputs.now c.args.router in
    c.loop-area.invariant c.loop-area.best
    (subst (λ (xs : List ℕ). TakesHops (OfferedBySome (drop c.loop-area.area-index xs) offers) c.loop-area.best c.loop-area.best) same
    (takes_past offers c.inputs.inside.areas.now c.loop-area.area-index c.loop-area.best c.loop-area-test.false))
