-- None of the areas up to here has the Area ID.
use Rattle.std.proofs.Common.{◌≡◌, drop}
use Rattle.intra.specs.Intras.{reached_at}
use Rattle.intra.proofs.intra.Intra.router.Given as goal

abbrev pub invariant-loop-kept : goal.invariant-loop-kept
invariant-loop-kept l = reached_at l.kept-items l.area l.router ≡ reached_at (drop l.kept-index l.kept-items) l.area l.router
