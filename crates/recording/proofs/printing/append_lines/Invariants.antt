use Rattle.recording.proofs.Pieces.{LinesAppended}
use Rattle.recording.proofs.printing.append_lines.Given as goal

abbrev pub invariant-loop-line : goal.invariant-loop-line
invariant-loop-line l = LinesAppended l.initial.out.items l.out.items l.line-items l.line-index
