use Rattle.std.proofs.Common.{◌≡◌, drop}
use Rattle.ospf_types.specs.Neighbours.{has_next_overlap}
use Rattle.ospf_types.proofs.config_fault.has_next_overlap.Given as goal

abbrev pub invariant-loop-i : goal.invariant-loop-i
invariant-loop-i l = has_next_overlap (drop l.i l.ranges) ≡ has_next_overlap l.ranges
