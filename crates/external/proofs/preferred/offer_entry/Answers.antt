use Rattle.std.proofs.Common.{◌≡◌, Bool, Option, Some, None, ap, subst, ◌∙◌}
use Rattle.std.specs.FinMap.{get}
use Rattle.std.proofs.lemmas.Result.{on_ok_weaker}
use Rattle.ospf_types.specs.declared.entry.Entry.{Entry}
use Rattle.ospf_types.specs.declared.key.Dest.TheVariants.{Router}
use Rattle.external.specs.Choosing.{TakesHops}
use Rattle.external.specs.Inputs.{ExternalInputsValue}
use Rattle.external.specs.AsbrRoute.{EntryOffers}
use Rattle.external.proofs.PreferredOffers.{takes_no_entry}
use Rattle.external.proofs.preferred.offer_entry.Goals as goal

pub returns-in-Some : goal.returns-in-Some
returns-in-Some c =
    let is : Some c.in-Some.entry.now ≡ get c.args.inputs.now.inter.entries (Router c.args.router) =
    c.in-Some.ensures.value ∙ ap (λ (v : ExternalInputsValue). get v.inter.entries (Router c.args.router)) c.inputs.view_is in
    let setting : c.inputs.inside.compat ≡ c.args.inputs.now.compat = ap (λ (v : ExternalInputsValue). v.compat) c.inputs.view_is in
    on_ok_weaker c.offer_inter.result
    (λ takes. subst (λ (z : Bool × Option Entry). TakesHops (EntryOffers z.0 z.1) c.args.best.now c.offer_inter.new.best) (λ i. (setting i, is i)) takes)
    c.offer_inter.ensures

pub returns-in-None : goal.returns-in-None
returns-in-None c =
    let is : None ≡ get c.args.inputs.now.inter.entries (Router c.args.router) =
    c.in-None.ensures.value ∙ ap (λ (v : ExternalInputsValue). get v.inter.entries (Router c.args.router)) c.inputs.view_is in
    subst (λ (o : Option Entry). TakesHops (EntryOffers c.args.inputs.now.compat o) c.args.best.now c.args.best.now) is (takes_no_entry c.args.inputs.now.compat c.args.best.now)
