-- The first range with the prefix and a network decides.
use Rattle.std.proofs.Common.{ap, subst, ◌∙◌}
use Rattle.std.specs.BTreeMap.Range.{entries_between}
use Rattle.std.specs.declared.ops.Bound.TheVariants.{Included, Unbounded}
use Rattle.active_ranges.specs.Active.{ActiveValue}
use Rattle.active_ranges.specs.Grouped.{range_cmp}
use Rattle.active_ranges.specs.declared.member.AreaRange.{AreaRange}
use Rattle.active_ranges.proofs.Activity.{AreLeft, left_all, left_other, left_found, left_empty, left_none}
use Rattle.active_ranges.proofs.Lists.{are_apart, are_one, no_entries, some_entries}
use Rattle.active_ranges.proofs.active.ActiveRanges.contains.Goals as goal

pub loop-range-init : goal.loop-range-init
loop-range-init c =
    let tree = c.self.inside.ranges in
    let left = c.into_iter-range-iterator.result in
    let is = c.into_iter-range-iterator.ensures.into_iter_gives ∙ c.range-range-items.ensures.between tt ∙ ap (λ (least : AreaRange). entries_between range_cmp (Included least) Unbounded tree.entries) c.least_of.ensures in
    subst (λ (v : ActiveValue). AreLeft v c.args.prefix left) c.self.view_is (left_all tree c.self.inside.spent c.range-range-items.ensures.ordered c.args.prefix left is)

pub returns-then-ne : goal.returns-then-ne
returns-then-ne c =
    let r = c.in-Some.range.now in
    let so_far = subst (AreLeft c.args.self.now c.args.prefix) c.in-Some.ensures.steps c.loop-range.invariant in (
      λ t. absurd cc,
      λ w. absurd (left_other c.args.self.now c.args.prefix r c.in-Some.networks.now c.next.new.self so_far (are_apart r.prefix c.args.prefix c.ne.result c.ne.ensures c.if-ne.true) w),
    )

pub returns-then-not-is_empty : goal.returns-then-not-is_empty
returns-then-not-is_empty c =
    let r = c.in-Some.range.now in
    let so_far = subst (AreLeft c.args.self.now c.args.prefix) c.in-Some.ensures.steps c.loop-range.invariant in (
      λ t. left_found c.args.self.now c.args.prefix r c.in-Some.networks.now c.next.new.self so_far (are_one r.prefix c.args.prefix c.ne.result c.ne.ensures c.if-ne.false) (some_entries c.in-Some.networks.now c.is_empty.result c.is_empty.ensures c.if-not-is_empty.true),
      λ w. cc,
    )

pub loop-range-preserved : goal.loop-range-preserved
loop-range-preserved c =
    let so_far = subst (AreLeft c.args.self.now c.args.prefix) c.in-Some.ensures.steps c.loop-range.invariant in
    left_empty c.args.self.now c.args.prefix c.in-Some.range.now c.in-Some.networks.now c.next.new.self so_far (no_entries c.in-Some.networks.now c.is_empty.result c.is_empty.ensures c.if-not-is_empty.false)

pub returns : goal.returns
returns c = (λ t. absurd cc, λ w. absurd (left_none c.args.self.now c.args.prefix c.loop-range.range-iterator c.in-None.ensures.steps.0 c.loop-range.invariant w))
