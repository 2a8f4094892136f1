use Rattle.std.proofs.Common.{◌≡◌, take}
use Rattle.ospf_types.specs.RangeChanges.{drop_range}
use Rattle.event_state.proofs.ranges.drop_range.Given as goal

abbrev pub invariant-loop-range : goal.invariant-loop-range
invariant-loop-range l = l.new ≡ drop_range l.fn.prefix (take l.range-index l.ranges)
