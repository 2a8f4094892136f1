use Rattle.std.proofs.Common.{◌≡◌, take}
use Rattle.captured_config.specs.Finding.{interfaces_by}
use Rattle.captured_config.proofs.finding.find_interfaces.Given as goal

abbrev pub invariant-loop-area : goal.invariant-loop-area
invariant-loop-area l = l.found ≡ interfaces_by l.lists (take l.area-index l.areas)
