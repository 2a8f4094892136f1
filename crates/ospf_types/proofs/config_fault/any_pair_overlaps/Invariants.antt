use Rattle.std.proofs.Common.{◌≡◌, drop}
use Rattle.ospf_types.specs.Configs.{has_overlap}
use Rattle.ospf_types.proofs.config_fault.any_pair_overlaps.Given as goal

abbrev pub invariant-loop-i : goal.invariant-loop-i
invariant-loop-i l = has_overlap (drop l.i l.ranges) ≡ has_overlap l.ranges
