use Rattle.std.proofs.Common.{◌≡◌, ◌++◌, List, sym, subst, ◌∙◌}
use Rattle.std.specs.Prelude.{Contains, option_copied}
use Rattle.ospf_types.proofs.Elements.{contains_at}
use Rattle.explanation.specs.declared.offer.Offer.{Offer}
use Rattle.explanation.specs.Explained.{MakesMore, offers_of}
use Rattle.explanation.specs.Judging.{IsRivalsOf}
use Rattle.explanation.specs.Groups.{AreOfNetwork, offers_for}
use Rattle.explanation.proofs.Candidates.{begin, begin_listed, more, more_listed, one_candidate, whole, whole_listed}
use Rattle.explanation.proofs.OfNetwork.{just_those}
use Rattle.explanation.proofs.layers.Layers.push_network.Goals as goal

pub loop-offer-init : goal.loop-offer-init
loop-offer-init c =
    let w = c.args.self in
    let all = c.args.all.now in
    let group = c.deref-offer-items.result.now in
    let before = c.args.candidates.now.items in
    record { made = begin w all group before; listed = begin_listed w all group before }

pub loop-offer-preserved : goal.loop-offer-preserved
loop-offer-preserved c =
    let w = c.args.self in
    let all = c.args.all.now in
    let p = c.args.network in
    let group = c.deref-offer-items.result.now in
    let i = c.loop-offer.offer-index in
    let o = c.offer-item.result in
    let r = c.rivals-rivals.result in
    let first = c.args.candidates.now.items in
    let before = c.loop-offer.candidates.items in
    let after = c.push_candidate.new.candidates.items in
    let of = subst (AreOfNetwork p all) (sym (c.deref-offer-items.ensures.value ∙ c.in_ok-offers.ensures)) (just_those p all) in
    let rivals = subst (λ (os : List Offer). IsRivalsOf w p os (option_copied r.internal) r.greatest r.least) (c.deref.ensures.value ∙ sym c.deref-offer-items.ensures.value) c.rivals-rivals.ensures in
    let adds = c.in_ok-push_candidate.ensures in
    let among = contains_at group i o c.loop-offer-test.true c.offer-item.is in
    let is = one_candidate w all p group of (option_copied r.internal) r.greatest r.least rivals o among before after adds in record {
      made = more w all group i o first before after adds.0 c.loop-offer-test.true c.offer-item.is adds.1 is adds.4 c.loop-offer.invariant.made;
      listed = more_listed w all group i o first before after adds.0 c.loop-offer-test.true c.offer-item.is adds.1 adds.4 c.loop-offer.invariant.listed;
    }

pub returns : goal.returns
returns c =
    let w = c.args.self in
    let all = c.args.all.now in
    let group = c.deref-offer-items.result.now in
    let i = c.loop-offer.offer-index in
    let first = c.args.candidates.now.items in
    let after = c.loop-offer.candidates.items in
    let listed : group ≡ offers_for c.args.network all = c.deref-offer-items.ensures.value ∙ c.in_ok-offers.ensures in (
      subst (λ (os : List Offer). MakesMore w all os first after) listed (whole w all group i first after c.loop-offer-test.false c.loop-offer.invariant.made),
      subst (λ (os : List Offer). offers_of after ≡ offers_of first ++ os) listed (whole_listed w all group i first after c.loop-offer-test.false c.loop-offer.invariant.listed),
    )

pub push_candidate-requires-clause-matched : goal.push_candidate-requires-clause-matched
push_candidate-requires-clause-matched c =
    let p = c.args.network in
    let all = c.args.all.now in
    let group = c.deref-offer-items.result.now in
    let o = c.offer-item.result in
    let among = contains_at group c.loop-offer.offer-index o c.loop-offer-test.true c.offer-item.is in
    let listed : group ≡ offers_for p all = c.deref-offer-items.ensures.value ∙ c.in_ok-offers.ensures in
    c.requires.matched o ((just_those p all o).0 (subst (λ (os : List Offer). Contains os o) listed among)).0
