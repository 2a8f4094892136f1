use Rattle.std.proofs.Common.{Vec, Global, take, ◌+◌, None, Some, ◌≡◌, sym, subst, ◌∙◌}
use Rattle.ospf_types.specs.declared.prefix.Prefix.{Prefix}
use Rattle.explanation.specs.Outside.{AreMatched}
use Rattle.explanation.proofs.Forwarding.{all_match, no_match, one_match, same_match}
use Rattle.explanation.proofs.layers.Layers.matched_networks.Goals as goal
use Rattle.explanation.proofs.layers.Layers.matched_networks.Goals.{in-Some+in_ok-push, in_default}

pub loop-offer-init : goal.loop-offer-init
loop-offer-init c = no_match c.args.self c.new-networks.result.items c.args.offers.now

pub loop-offer-preserved : goal.loop-offer-preserved
loop-offer-preserved c =
    let w = c.args.self in
    let offers = c.args.offers.now in
    let i = c.loop-offer.offer-index in
    let o = c.offer-item.result in
    elim c.match-matched_by.branch [
      | in-Some+in_ok-push b ↦ subst (λ (v : Vec Prefix Global). AreMatched w v.items (take (i + 1) offers)) (sym b.networks-is)
          (one_match w offers i o c.loop-offer-test.true c.offer-item.is c.loop-offer.networks.items b.push.new.self.items b.in-Some.network (sym c.matched_by.ensures ∙ b.in-Some.is) b.in_ok-push.ensures.items c.loop-offer.invariant)
      | in_default b ↦ subst (λ (v : Vec Prefix Global). AreMatched w v.items (take (i + 1) offers)) (sym b.networks-is)
          (same_match w offers i o c.loop-offer-test.true c.offer-item.is c.loop-offer.networks.items (λ p found. let wrong : None ≡ Some p = sym b.in_default.is ∙ c.matched_by.ensures ∙ found in absurd cc) c.loop-offer.invariant)
    ]

pub returns : goal.returns
returns c = all_match c.args.self c.loop-offer.networks.items c.of.result c.args.offers.now c.loop-offer.offer-index c.loop-offer-test.false (λ p among. (c.of.ensures p).1 among) c.loop-offer.invariant
