use Rattle.std.proofs.Common.{◌<◌, length}
use Rattle.abr.proofs.Counted.{Counted}
use Rattle.abr.proofs.counting.count_lines.Given as goal

abbrev pub invariant-loop : goal.invariant-loop
invariant-loop g l = Counted (g.R.Read.remaining l.initial.input) (g.R.Read.remaining l.input) l.lines × (0 < length l.window)
