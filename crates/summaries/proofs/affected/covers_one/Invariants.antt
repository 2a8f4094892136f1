-- It covers none up to here.
use Rattle.std.proofs.Common.{take}
use Rattle.active_ranges.proofs.Searching.{HasNone}
use Rattle.summaries.specs.Touched.{IsNetIn}
use Rattle.summaries.proofs.affected.covers_one.Given as goal

abbrev pub invariant-loop-dest : goal.invariant-loop-dest
invariant-loop-dest l = HasNone (IsNetIn l.prefix) (take l.dest-index l.dests)
