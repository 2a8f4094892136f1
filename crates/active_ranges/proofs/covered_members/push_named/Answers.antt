-- The members of one range more.
use Rattle.std.proofs.Common.{List, subst}
use Rattle.ospf_types.specs.declared.config.Range.{Range}
use Rattle.route_choice.specs.Lists.{IsOfSome}
use Rattle.active_ranges.specs.Following.{HasMore, IsNamedIn, IsNamedOf}
use Rattle.route_choice.proofs.Adding.{more_as, more_next, more_all}
use Rattle.active_ranges.proofs.Naming.{named_in, one_range}
use Rattle.active_ranges.proofs.covered_members.push_named.Goals as goal

pub loop-range-preserved : goal.loop-range-preserved
loop-range-preserved c =
    more_next (λ (r : Range). IsNamedOf (one_range c.args.area.now.id r) c.args.dests.now) c.as_slice-range-items.result.now c.loop-range.range-index c.range-item.result c.args.members.now.items c.loop-range.members.items c.push_covering.new.members.items
    c.loop-range-test.true c.range-item.is c.loop-range.invariant c.in_ok-push_covering.ensures

pub returns : goal.returns
returns c =
    let a = c.args.area.now in
    let P = λ (r : Range). IsNamedOf (one_range a.id r) c.args.dests.now in
    let before = c.args.members.now.items in
    let after = c.loop-range.members.items in
    let all = more_all P c.as_slice-range-items.result.now c.loop-range.range-index before after c.loop-range-test.false c.loop-range.invariant in
    more_as (IsOfSome a.ranges P) (IsNamedIn a c.args.dests.now) before after (named_in a c.args.dests.now) (subst (λ (rs : List Range). HasMore (IsOfSome rs P) before after) c.as_slice-range-items.ensures all)
