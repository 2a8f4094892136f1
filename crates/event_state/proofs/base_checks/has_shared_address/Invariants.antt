use Rattle.std.proofs.Common.{◌≡◌, drop}
use Rattle.event_state.specs.BaseFaults.{has_twice, is_same_address}
use Rattle.event_state.proofs.base_checks.has_shared_address.Given as goal

abbrev pub invariant-loop-i : goal.invariant-loop-i
invariant-loop-i l = has_twice is_same_address (drop l.i l.interfaces) ≡ has_twice is_same_address l.interfaces
