use Rattle.std.proofs.Common.{◌≡◌, List, take, sym, subst, ◌∙◌}
use Rattle.std.specs.List.Sorted.{IsStrictlySortedBy}
use Rattle.ospf_types.specs.Network.{network_cmp}
use Rattle.explanation.specs.declared.offer.Offer.{Offer}
use Rattle.explanation.specs.Explained.{AddsNetwork, AreNetworks}
use Rattle.explanation.specs.Networks.{all_offers}
use Rattle.explanation.specs.Outside.{AreMatched}
use Rattle.explanation.proofs.Candidates.{IsDone, all_done, all_in_order, more_done, none_done}
use Rattle.explanation.proofs.layers.Layers.explain.Goals as goal

pub loop-network-init : goal.loop-network-init
loop-network-init c =
    let all = all_offers c.args.self c.args.address in
    let networks = c.as_slice-network-items.result.now in
    subst (IsDone c.args.self all (take 0 networks)) (sym c.in_ok-candidates.ensures.items) (none_done c.args.self all networks)

pub loop-network-preserved : goal.loop-network-preserved
loop-network-preserved c =
    let all = all_offers c.args.self c.args.address in
    let listed : c.deref-in-loop-network.result.now ≡ all = c.deref-in-loop-network.ensures.value ∙ c.in_ok-all.ensures in
    let adds = subst (λ (offers : List Offer). AddsNetwork c.args.self offers c.network-item.result c.loop-network.candidates.items c.push_network.new.candidates.items) listed c.in_ok-push_network.ensures in
    more_done c.args.self all c.as_slice-network-items.result.now c.loop-network.network-index c.network-item.result c.loop-network.candidates.items c.push_network.new.candidates.items c.loop-network-test.true c.network-item.is adds c.loop-network.invariant

pub returns-clause-right : goal.returns-clause-right
returns-clause-right c =
    let all = all_offers c.args.self c.args.address in
    let listed : c.deref-2.result.now ≡ all = c.deref-2.ensures.value ∙ c.in_ok-all.ensures in
    let are = subst (AreNetworks all) (sym c.as_slice-network-items.ensures.value) (subst (λ (offers : List Offer). AreNetworks offers c.in_ok-networks.networks) listed c.in_ok-networks.ensures) in
    all_done c.args.self all c.as_slice-network-items.result.now c.loop-network.network-index c.loop-network.candidates.items c.loop-network-test.false are c.loop-network.invariant

pub returns-clause-in_order : goal.returns-clause-in_order
returns-clause-in_order c =
    let all = all_offers c.args.self c.args.address in
    let ascend = subst (IsStrictlySortedBy network_cmp) (sym c.as_slice-network-items.ensures.value) c.as_slice-network-items.ensures.in_order in
    all_in_order c.args.self all c.as_slice-network-items.result.now c.loop-network.network-index c.loop-network.candidates.items c.loop-network-test.false ascend c.loop-network.invariant

pub push_network-requires-clause-matched : goal.push_network-requires-clause-matched
push_network-requires-clause-matched c =
    let here : c.deref-in-loop-network.result.now ≡ c.deref.result.now = c.deref-in-loop-network.ensures.value ∙ sym c.deref.ensures.value in
    subst (AreMatched c.args.self c.in_ok-forwards.forwards.networks) (sym here) c.in_ok-forwards.ensures.matched
