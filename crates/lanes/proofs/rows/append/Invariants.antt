use Rattle.std.proofs.Common.{◌≡◌, ◌≤◌, ◌-◌, ◌++◌, length, take}
use Rattle.lanes.specs.Rows.{rows_from}
use Rattle.lanes.proofs.rows.append.Given as goal

abbrev pub invariant-loop-first : goal.invariant-loop-first
invariant-loop-first g l = record {
  within : l.first ≤ length l.column;
  so_far : l.rows.items ≡ l.fn.rows.items ++ rows_from (λ x. g.T.PartialEq.eq x l.value) 0 (take l.first l.column);
}

abbrev pub decreases-loop-first : goal.decreases-loop-first
decreases-loop-first g l = length l.column - l.first
