use Rattle.std.proofs.Common.{[], sym, subst}
use Rattle.explanation.specs.Groups.{AreGroups, networks_in}
use Rattle.explanation.specs.Networks.{all_wanted}
use Rattle.explanation.specs.Offers.{is_one_of}
use Rattle.explanation.specs.Outside.{AreForwards}
use Rattle.explanation.proofs.Forwarding.{all_forwards, all_of_group, no_forwards, one_forward}
use Rattle.explanation.proofs.layers.Layers.forwards.Goals as goal

pub push_forward-requires-clause-all : goal.push_forward-requires-clause-all
push_forward-requires-clause-all c =
    let w = c.args.self in
    let networks = c.in_ok-networks.networks in
    let groups = c.deref-group-items.result.now in
    let are = subst (AreGroups networks (all_wanted (is_one_of networks) w)) (sym c.deref-group-items.ensures.value) c.in_ok-groups.ensures in
    all_of_group w networks groups are c.loop-group.group-index c.group-item.result c.loop-group-test.true c.group-item.is

pub loop-group-init : goal.loop-group-init
loop-group-init c = subst (AreForwards c.args.self (networks_in [])) (sym c.in_ok-items.ensures.items) (no_forwards c.args.self c.deref-group-items.result.now)

pub loop-group-preserved : goal.loop-group-preserved
loop-group-preserved c =
    one_forward c.args.self c.deref-group-items.result.now c.loop-group.group-index c.group-item.result c.loop-group.items.items c.push_forward.new.forwards.items c.loop-group-test.true c.group-item.is
    c.in_ok-push_forward.ensures c.loop-group.invariant

pub returns-clause-right : goal.returns-clause-right
returns-clause-right c =
    let groups = c.deref-group-items.result.now in
    let networks = c.in_ok-networks.networks in
    let are = subst (AreGroups networks (all_wanted (is_one_of networks) c.args.self)) (sym c.deref-group-items.ensures.value) c.in_ok-groups.ensures in
    all_forwards c.args.self networks groups c.loop-group.group-index c.loop-group.items.items c.loop-group-test.false are.listed c.loop-group.invariant
