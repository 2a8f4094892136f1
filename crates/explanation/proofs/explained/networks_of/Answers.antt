use Rattle.std.proofs.Common.{List, [], ◌∷◌, ◌++◌, sym, subst, inl, inr}
use Rattle.std.specs.Prelude.{Contains}
use Rattle.std.proofs.lemmas.List.{take_all}
use Rattle.std.proofs.lemmas.List.Elements.{Contains-append_left, Contains-push}
use Rattle.ospf_types.proofs.Elements.{contains_more}
use Rattle.ospf_types.specs.declared.prefix.Prefix.{Prefix}
use Rattle.explanation.specs.declared.offer.Offer.{Offer}
use Rattle.explanation.proofs.explained.networks_of.Goals as goal

pub loop-offer-preserved : goal.loop-offer-preserved
loop-offer-preserved c = λ o among.
    let before = c.loop-offer.networks.items in
    let new = c.offer-item.result in
    subst (λ (list : List Prefix). Contains list o.network) (sym c.in_ok-push.ensures.items) (elim ((contains_more c.args.offers.now c.loop-offer.offer-index new o c.loop-offer-test.true c.offer-item.is).0 among) [
      | inl was ↦ Contains-append_left before (new.network ∷ []) o.network (c.loop-offer.invariant o was)
      | inr same ↦ subst (λ (x : Offer). Contains (before ++ new.network ∷ []) x.network) (sym same) (Contains-push before new.network)
    ])

pub returns : goal.returns
returns c = λ o among.
    (c.of.ensures o.network).1 (c.loop-offer.invariant o (subst (λ (list : List Offer). Contains list o) (sym (take_all c.loop-offer.offer-index c.args.offers.now c.loop-offer-test.false)) among))
