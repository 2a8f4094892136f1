use Rattle.std.proofs.Common.{◌≡◌}
use Rattle.std.specs.Prelude.{IfSome}
use Rattle.test_engine.proofs.workers.tells.Given as goal

abbrev pub invariant-loop-number : goal.invariant-loop-number
invariant-loop-number g l = IfSome l.last (λ t. t.name ≡ l.engine)
