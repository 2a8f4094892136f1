-- The members of one area more.
use Rattle.std.proofs.Common.{[]}
use Rattle.ospf_types.specs.declared.config.AreaConfig.{AreaConfig}
use Rattle.active_ranges.specs.Following.{IsNamedIn}
use Rattle.route_choice.proofs.Adding.{more_next, more_all}
use Rattle.active_ranges.proofs.Naming.{all_named}
use Rattle.active_ranges.proofs.covered_members.named_members.Goals as goal

pub loop-area-preserved : goal.loop-area-preserved
loop-area-preserved c =
    more_next (λ (a : AreaConfig). IsNamedIn a c.args.dests.now) c.args.areas.now c.loop-area.area-index c.area-item.result [] c.loop-area.members.items c.push_named.new.members.items
    c.loop-area-test.true c.area-item.is c.loop-area.invariant c.in_ok-push_named.ensures

pub returns : goal.returns
returns c =
    let P = λ (a : AreaConfig). IsNamedIn a c.args.dests.now in
    let members = c.loop-area.members.items in
    all_named c.args.areas.now c.args.dests.now members (more_all P c.args.areas.now c.loop-area.area-index [] members c.loop-area-test.false c.loop-area.invariant)
