use Rattle.std.proofs.Common.{◌≡◌, map, take}
use Rattle.ospf_types.specs.RangeChanges.{in_place}
use Rattle.event_state.proofs.ranges.replaced.Given as goal

abbrev pub invariant-loop-other : goal.invariant-loop-other
invariant-loop-other l = l.new ≡ map (in_place l.fn.range) (take l.other-index l.ranges)
