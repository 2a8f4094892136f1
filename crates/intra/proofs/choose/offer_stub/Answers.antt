use Rattle.std.proofs.Common.{◌≡◌, ℕ, ◌+◌, List, ap, sym, subst, ◌∙◌}
use Rattle.std.proofs.lemmas.Result.{on_ok_weaker}
use Rattle.ospf_types.specs.declared.config.Interface.{Interface}
use Rattle.ospf_types.specs.declared.hop.NextHop.{NextHop}
use Rattle.ospf_types.specs.Intra.{AreaCost}
use Rattle.intra.specs.Choosing.{TakesPaths, HopsOffer, InterfaceOffers}
use Rattle.intra.specs.Inputs.{InputsValue, distance_at, hops_at}
use Rattle.route_choice.specs.Takes.{OfferedBySome}
use Rattle.intra.proofs.Sourced.{takes_own, takes_reached, takes_unreached}
use Rattle.intra.proofs.choose.offer_stub.Goals as goal

pub returns-then-router-inputs : goal.returns-then-router-inputs
returns-then-router-inputs c =
    let a = c.args.network.now.area.now in
    let key : c.cost_in-key.result ≡ (c.args.stub.now.metric, a.id) = c.cost_in-key.ensures ∙ (λ i. (c.from.ensures i, a.id)) in
    let interfaces : c.in_ok-clone.field-0 ≡ c.args.network.now.inputs.now.interfaces = c.in_ok-clone.ensures.cases ∙ ap (λ (w : InputsValue). w.interfaces) c.inputs.view_is in
    on_ok_weaker c.offer_own.result
    (λ takes. takes_own c.args.network.now.inputs.now a c.args.network.now.prefix c.args.router c.args.stub.now.metric c.args.best.now c.offer_own.new.best (c.if-router-inputs.true ∙ ap (λ (w : InputsValue). w.root) c.inputs.view_is)
    (subst (λ (xs : List (ℕ × Interface)). TakesPaths (OfferedBySome xs (InterfaceOffers c.args.network.now.prefix (c.args.stub.now.metric, a.id))) c.args.best.now c.offer_own.new.best) interfaces
    (subst (λ (k : AreaCost). TakesPaths (OfferedBySome c.in_ok-clone.field-0 (InterfaceOffers c.args.network.now.prefix k)) c.args.best.now c.offer_own.new.best) key takes)))
    c.offer_own.ensures

pub returns-in-Some : goal.returns-in-Some
returns-in-Some c =
    let a = c.args.network.now.area.now in
    let key : c.cost_in-key-in-Some.result ≡ (c.in-Some.distance + c.args.stub.now.metric, a.id) = c.cost_in-key-in-Some.ensures ∙ (λ i. (c.in-Some.distance + c.from-in-Some.ensures i, a.id)) in
    on_ok_weaker c.offer_hops.result
    (λ takes. takes_reached c.args.network.now.inputs.now a c.args.network.now.prefix c.args.router c.args.stub.now.metric (λ is. c.if-router-inputs.false (is ∙ sym (ap (λ (w : InputsValue). w.root) c.inputs.view_is))) c.in-Some.distance c.args.best.now c.offer_hops.new.best (sym (ap (distance_at a) c.requires) ∙ sym c.in-Some.ensures.value)
    (subst (λ (hops : List NextHop). TakesPaths (HopsOffer hops (c.in-Some.distance + c.args.stub.now.metric, a.id)) c.args.best.now c.offer_hops.new.best) (c.hops.ensures ∙ ap (hops_at a) c.requires)
    (subst (λ (k : AreaCost). TakesPaths (HopsOffer c.hops.result.now k) c.args.best.now c.offer_hops.new.best) key takes)))
    c.offer_hops.ensures

pub returns-in-None : goal.returns-in-None
returns-in-None c =
    takes_unreached c.args.network.now.inputs.now c.args.network.now.area.now c.args.network.now.prefix c.args.router c.args.stub.now.metric (λ is. c.if-router-inputs.false (is ∙ sym (ap (λ (w : InputsValue). w.root) c.inputs.view_is))) c.args.best.now (sym (ap (distance_at c.args.network.now.area.now) c.requires) ∙ sym c.in-None.ensures.value)
