-- So far the areas up to here are there.
use Rattle.std.proofs.Common.{◌≡◌, take, map}
use Rattle.intra.proofs.Frame.{blank_area}
use Rattle.intra.proofs.intra.Intra.blank.Given as goal

abbrev pub invariant-loop-area : goal.invariant-loop-area
invariant-loop-area l = l.kept.items ≡ map blank_area (take l.area-index l.areas)
