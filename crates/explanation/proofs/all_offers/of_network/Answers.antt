use Rattle.std.proofs.Common.{◌≡◌, ◌+◌, Vec, Global, take, sym, subst, ◌∙◌}
use Rattle.explanation.specs.declared.offer.Offer.{Offer}
use Rattle.explanation.specs.Groups.{offers_for}
use Rattle.explanation.proofs.OfNetwork.{all_of, more_of, same_of}
use Rattle.explanation.proofs.all_offers.of_network.Goals as goal
use Rattle.explanation.proofs.all_offers.of_network.Goals.{then-is_of+in_ok-push, else-is_of}

pub loop-offer-init : goal.loop-offer-init
loop-offer-init c = c.new-found.ensures.items

pub loop-offer-preserved : goal.loop-offer-preserved
loop-offer-preserved c =
    let p = c.args.network in
    let offers = c.args.offers.now in
    let i = c.loop-offer.offer-index in
    elim c.if-is_of.branch [
      | then-is_of+in_ok-push w ↦ subst (λ (v : Vec Offer Global). v.items ≡ offers_for p (take (i + 1) offers)) (sym w.found-is)
          (more_of p offers i c.offer-item.result c.loop-offer-test.true c.offer-item.is c.loop-offer.found.items w.push.new.self.items (sym c.is_of.ensures ∙ w.if-is_of.true) w.in_ok-push.ensures.items c.loop-offer.invariant)
      | else-is_of w ↦ subst (λ (v : Vec Offer Global). v.items ≡ offers_for p (take (i + 1) offers)) (sym w.found-is)
          (same_of p offers i c.offer-item.result c.loop-offer-test.true c.offer-item.is c.loop-offer.found.items (sym c.is_of.ensures ∙ w.if-is_of.false) c.loop-offer.invariant)
    ]

pub returns : goal.returns
returns c = all_of c.args.network c.args.offers.now c.loop-offer.offer-index c.loop-offer.found.items c.loop-offer-test.false c.loop-offer.invariant
