use Rattle.std.proofs.Common.{◌≡◌, drop}
use Rattle.ospf_types.specs.Configs.{has_alike}
use Rattle.ospf_types.proofs.config_fault.has_alike.Given as goal

abbrev pub invariant-loop-i : goal.invariant-loop-i
invariant-loop-i l = has_alike (drop l.i l.areas) ≡ has_alike l.areas
