use Rattle.std.proofs.Common.{◌+◌, ◌-◌, ◌*◌, length}
use Rattle.std.specs.FinMap.{get, len}
use Rattle.spf.specs.Suspects.{AreSuspected}
use Rattle.spf.proofs.lose_support.lose_support.Given as goal

abbrev pub invariant-loop-suspect : goal.invariant-loop-suspect
invariant-loop-suspect l = AreSuspected l.graph l.changes.gone.items l.changes.came.items (get l.distances) l.search.lost l.search.suspects l.search.pending.stale

abbrev pub decreases-loop-suspect : goal.decreases-loop-suspect
decreases-loop-suspect l = (len l.distances - length l.search.lost) * (len l.distances + 1) + length l.search.suspects
