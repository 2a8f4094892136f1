use Rattle.abr_c.proofs.Flat.{AreCounted}
use Rattle.abr_c.proofs.due_changes.count_changes.Given as goal

abbrev pub invariant-loop-place : goal.invariant-loop-place
invariant-loop-place l = AreCounted l.changes l.count l.place
