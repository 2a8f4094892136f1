use Rattle.std.proofs.Common.{◌≡◌, drop}
use Rattle.event_state.specs.Ascending.{is_ascending}
use Rattle.event_state.proofs.base_checks.is_ascending.Given as goal

abbrev pub invariant-loop-i : goal.invariant-loop-i
invariant-loop-i l = is_ascending (drop l.i l.lsas) ≡ is_ascending l.lsas
