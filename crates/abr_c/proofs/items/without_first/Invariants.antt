use Rattle.std.proofs.Common.{◌≡◌, ◌≤◌, drop}
use Rattle.abr_c.proofs.items.without_first.Given as goal

abbrev pub invariant-loop-passed : goal.invariant-loop-passed
invariant-loop-passed l = record {
  goes : (goal.iterator-loop-passed).can_next l.items;
  ends : (goal.iterator-loop-passed).is_finite l.items;
  left : l.items ≡ drop l.passed l.fn.items;
  within : l.passed ≤ l.first;
}
