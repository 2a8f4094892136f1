use Rattle.abr_c.proofs.Flat.{IsLookedFor}
use Rattle.abr_c.proofs.due_changes.change_at.Given as goal

abbrev pub invariant-loop-place : goal.invariant-loop-place
invariant-loop-place l = IsLookedFor l.changes l.n l.left l.place
