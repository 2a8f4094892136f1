use Rattle.std.proofs.Common.{◌≡◌}
use Rattle.test_engine.proofs.workers.watches.Given as goal

abbrev pub invariant-loop-number : goal.invariant-loop-number
invariant-loop-number g l = l.watch.forwarder.name ≡ l.engine
