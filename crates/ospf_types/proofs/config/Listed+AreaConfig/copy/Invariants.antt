use Rattle.std.proofs.Common.{◌≡◌, take}
use Rattle.ospf_types.proofs.config.Listed+AreaConfig.copy.Given as goal

abbrev pub invariant-loop-area : goal.invariant-loop-area
invariant-loop-area l = l.areas ≡ take l.area-index l.area-items
