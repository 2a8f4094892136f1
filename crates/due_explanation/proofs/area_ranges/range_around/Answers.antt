-- One area more.
use Rattle.ospf_types.proofs.Elements.{contains_at}
use Rattle.active_ranges.proofs.Searching.{none_next, none_of}
use Rattle.due_explanation.specs.Sources.{HasRangeAround}
use Rattle.due_explanation.proofs.Ranges.{around_in, outside_all}
use Rattle.due_explanation.proofs.area_ranges.range_around.Goals as goal

pub loop-area-preserved : goal.loop-area-preserved
loop-area-preserved c = none_next (HasRangeAround c.args.id c.args.network) c.args.areas.now c.loop-area.area-index c.area-item.result c.loop-area-test.true c.area-item.is c.loop-area.invariant c.in_default.ensures.none

pub returns-in-Some-clause-some : goal.returns-in-Some-clause-some
returns-in-Some-clause-some c = around_in c.args.areas.now c.args.id c.args.network c.area-item.result _ (contains_at c.args.areas.now c.loop-area.area-index c.area-item.result c.loop-area-test.true c.area-item.is) c.in-Some.ensures.some

pub returns-clause-none : goal.returns-clause-none
returns-clause-none c = outside_all c.args.areas.now c.args.id c.args.network (none_of (HasRangeAround c.args.id c.args.network) c.args.areas.now c.loop-area.area-index c.loop-area-test.false c.loop-area.invariant)
