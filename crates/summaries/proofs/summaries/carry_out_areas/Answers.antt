use Rattle.std.proofs.Common.{◌<◌, ◌≤◌, get_or, length, ap, arith}
use Rattle.summary_lists.specs.declared.plan.AreaPlan.{AreaPlan}
use Rattle.summary_lists.specs.Lists.{AreaSummariesValue}
use Rattle.summaries.proofs.Carried.{carried_more, carried_all}
use Rattle.summaries.proofs.summaries.carry_out_areas.Goals as goal

pub loop-place-preserved : goal.loop-place-preserved
loop-place-preserved c =
    let i = c.loop-place.place in
    let plans = c.loop-place.plans in
    let lists = c.loop-place.lists in
    let p : AreaPlan = get_or plans i c.index-plans-place.result in
    let w : AreaSummariesValue = get_or lists i c.index-lists-place.result in
    let lt : i < length plans = omega (arith, c.loop-place-test.true, c.loop-place.auto.plans) in
    carried_more c.args.plans.now c.args.lists.now lists i plans c.loop-place.invariant p lt (ap (get_or plans i) c.index-plans-place.is)
    w (ap (get_or lists i) c.index-lists-place.is) c.carry_out.new.summaries c.carry_out.new.self c.carry_out.ensures.area c.carry_out.ensures.metrics c.carry_out.ensures.list

pub returns-clause-lists : goal.returns-clause-lists
returns-clause-lists c =
    let past : length c.loop-place.plans ≤ c.loop-place.place = omega (arith, c.loop-place-test.false, c.loop-place.auto.plans) in
    carried_all c.args.plans.now c.args.lists.now c.loop-place.lists c.loop-place.place c.loop-place.plans past c.loop-place.invariant
