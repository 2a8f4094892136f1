-- One destination more.
use Rattle.route_choice.specs.Lists.{IsOfSome}
use Rattle.active_ranges.specs.Following.{IsNamedAs, IsNamedOf}
use Rattle.route_choice.proofs.Adding.{more_as, more_next, more_all}
use Rattle.active_ranges.proofs.Naming.{named_of}
use Rattle.active_ranges.proofs.covered_members.push_covering.Goals as goal

pub loop-dest-preserved : goal.loop-dest-preserved
loop-dest-preserved c =
    more_next (IsNamedAs c.args.range.now) c.args.dests.now c.loop-dest.dest-index c.dest-item.result c.args.members.now.items c.loop-dest.members.items c.push_covered.new.members.items
    c.loop-dest-test.true c.dest-item.is c.loop-dest.invariant c.in_ok-push_covered.ensures

pub returns : goal.returns
returns c =
    let dests = c.args.dests.now in
    let P = IsNamedAs c.args.range.now in
    let before = c.args.members.now.items in
    let after = c.loop-dest.members.items in
    more_as (IsOfSome dests P) (IsNamedOf c.args.range.now dests) before after (named_of c.args.range.now dests) (more_all P dests c.loop-dest.dest-index before after c.loop-dest-test.false c.loop-dest.invariant)
