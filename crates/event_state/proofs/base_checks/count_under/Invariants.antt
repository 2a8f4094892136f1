use Rattle.std.proofs.Common.{◌≡◌, ◌≤◌, length, take}
use Rattle.event_state.specs.Bases.{lsas_under}
use Rattle.event_state.proofs.base_checks.count_under.Given as goal

abbrev pub invariant-loop-other : goal.invariant-loop-other
invariant-loop-other l = record {
  count : l.count ≡ length (lsas_under (take l.other-index l.lsas) l.scope);
  small : l.count ≤ l.other-index;
}
