use Rattle.std.proofs.Common.{◌≡◌, map, take}
use Rattle.event_state.specs.RangeEvents.{changed_ranges, changed_area}
use Rattle.event_state.proofs.ranges.with_ranges.Given as goal

abbrev pub invariant-loop-area : goal.invariant-loop-area
invariant-loop-area l = l.new ≡ map (changed_area l.fn.id (changed_ranges l.fn.change)) (take l.area-index l.areas)
