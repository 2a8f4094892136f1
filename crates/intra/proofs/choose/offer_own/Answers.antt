use Rattle.std.proofs.Common.{ℕ, List, sym, subst}
use Rattle.ospf_types.specs.declared.config.Interface.{Interface}
use Rattle.intra.specs.Choosing.{TakesPaths, InterfaceOffers}
use Rattle.route_choice.specs.Takes.{OfferedBySome}
use Rattle.route_choice.proofs.Taking.{takes_cons, takes_nil}
use Rattle.intra.proofs.choose.offer_own.Goals as goal

pub loop-id-preserved : goal.loop-id-preserved
loop-id-preserved c = λ new rest.
    let offers = InterfaceOffers c.args.prefix c.args.key in
    let e : ℕ × Interface = (c.in-Some.id.now, c.in-Some.interface.now) in
    c.loop-id.invariant new (subst (λ (list : List (ℕ × Interface)). TakesPaths (OfferedBySome list offers) c.loop-id.best new) (sym c.in-Some.ensures.steps)
    (takes_cons offers e c.next.new.self c.loop-id.best c.offer_over.new.best new c.in_ok-offer_over.ensures rest))

pub returns : goal.returns
returns c =
    let offers = InterfaceOffers c.args.prefix c.args.key in
    c.loop-id.invariant c.loop-id.best (subst (λ (list : List (ℕ × Interface)). TakesPaths (OfferedBySome list offers) c.loop-id.best c.loop-id.best) (sym c.in-None.ensures.steps.0) (takes_nil offers c.loop-id.best))
