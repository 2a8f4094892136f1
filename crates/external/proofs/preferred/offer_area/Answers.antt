use Rattle.std.proofs.Common.{◌≡◌, Bool, Option, Some, None, ap, subst, ◌∙◌}
use Rattle.std.proofs.lemmas.Result.{on_ok_weaker}
use Rattle.intra.specs.Intras.{reached_at}
use Rattle.intra.specs.ReachedRouter.{ReachedValue}
use Rattle.external.specs.Choosing.{TakesHops, AsbrOffers}
use Rattle.external.specs.Inputs.{ExternalInputsValue}
use Rattle.external.proofs.PreferredOffers.{takes_unreached}
use Rattle.external.proofs.preferred.offer_area.Goals as goal

pub returns-in-Some : goal.returns-in-Some
returns-in-Some c =
    let is : Some c.in-Some.reached.now ≡ reached_at c.args.inputs.now.intra.areas c.args.area c.args.router =
    c.in-Some.ensures ∙ ap (λ (v : ExternalInputsValue). reached_at v.intra.areas c.args.area c.args.router) c.inputs.view_is in
    let setting : c.inputs.inside.compat ≡ c.args.inputs.now.compat = ap (λ (v : ExternalInputsValue). v.compat) c.inputs.view_is in
    on_ok_weaker c.offer_reached.result
    (λ takes. subst (λ (z : Bool × Option ReachedValue). TakesHops (AsbrOffers z.0 c.args.area z.1) c.args.best.now c.offer_reached.new.best) (λ i. (setting i, is i)) takes)
    c.offer_reached.ensures

pub returns-in-None : goal.returns-in-None
returns-in-None c =
    let is : None ≡ reached_at c.args.inputs.now.intra.areas c.args.area c.args.router =
    c.in-None.ensures ∙ ap (λ (v : ExternalInputsValue). reached_at v.intra.areas c.args.area c.args.router) c.inputs.view_is in
    subst (λ (o : Option ReachedValue). TakesHops (AsbrOffers c.args.inputs.now.compat c.args.area o) c.args.best.now c.args.best.now) is (takes_unreached c.args.inputs.now.compat c.args.area c.args.best.now)
