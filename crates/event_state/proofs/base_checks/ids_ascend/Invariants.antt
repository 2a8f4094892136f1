use Rattle.std.proofs.Common.{◌≡◌, drop}
use Rattle.event_state.specs.Ascending.{ids_ascend}
use Rattle.event_state.proofs.base_checks.ids_ascend.Given as goal

abbrev pub invariant-loop-i : goal.invariant-loop-i
invariant-loop-i l = ids_ascend (drop l.i l.interfaces) ≡ ids_ascend l.interfaces
