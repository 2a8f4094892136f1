use Rattle.std.proofs.Common.{sym, ◌∙◌}
use Rattle.event_state.proofs.RangeLists.{before_greater, behind_all}
use Rattle.event_state.proofs.ranges.place_of_new.Goals as goal

pub returns-in-Some-clause-in_order : goal.returns-in-Some-clause-in_order
returns-in-Some-clause-in_order c = before_greater c.args.range.now c.args.ranges.now c.in-Some.place (sym c.first_behind.ensures ∙ c.in-Some.is)

pub returns-in-None-clause-in_order : goal.returns-in-None-clause-in_order
returns-in-None-clause-in_order c = behind_all c.args.range.now c.args.ranges.now (sym c.first_behind.ensures ∙ c.in-None.is)
