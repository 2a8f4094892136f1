use Rattle.std.proofs.Common.{◌≡◌, ◌++◌, take}
use Rattle.calculation.specs.Followed.{routers_in}
use Rattle.calculation.proofs.calculation.push_routers.Given as goal

abbrev pub invariant-loop-dest : goal.invariant-loop-dest
invariant-loop-dest l = l.dests.items ≡ l.fn.dests.items ++ routers_in (take l.dest-index l.among)
