use Rattle.std.proofs.Common.{◌≡◌}
use Rattle.input_reading.specs.Taking.{Takes}
use Rattle.change_log.specs.declared.opening.PreambleEnd.TheVariants as front_end
use Rattle.change_log.proofs.opening.read_opening.Given as goal

abbrev pub invariant-loop : goal.invariant-loop
invariant-loop g l = record {
  front : l.opening.end ≡ front_end.Over;
  read : Takes l.initial.lines (g.R.Read.remaining l.initial.input) l.lines (g.R.Read.remaining l.input) l.opening.front.items;
}
