use Rattle.std.proofs.Common.{◌≡◌, drop, take}
use Rattle.std.specs.List.{All}
use Rattle.ospf_types.specs.Neighbours.{IsMasked, is_ascending}
use Rattle.ospf_types.proofs.config_fault.is_ascending.Given as goal

abbrev pub invariant-loop-i : goal.invariant-loop-i
invariant-loop-i l = record {
  order : is_ascending (drop l.i l.ranges) ≡ is_ascending l.ranges;
  masked : All (λ range. IsMasked range.prefix) (take l.i l.ranges);
}
