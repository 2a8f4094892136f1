use Rattle.std.proofs.Common.{◌≡◌, ◌++◌, take}
use Rattle.engine.proofs.engine_state.follow.Given as goal

abbrev pub invariant-loop-k : goal.invariant-loop-k
invariant-loop-k l = (l.history.book ≡ l.initial.history.book) × (l.history.list ≡ l.rolled.list ++ take l.k l.journal)
