use Rattle.std.proofs.Common.{◌≡◌, ◌++◌, take}
use Rattle.lanes.specs.Rows.{rows_from}
use Rattle.lanes.proofs.rows.append_one_by_one.Given as goal

abbrev pub invariant-loop-place : goal.invariant-loop-place
invariant-loop-place g l = l.rows.items ≡ l.fn.rows.items ++ rows_from (λ x. g.T.PartialEq.eq x l.value) l.first (take l.place l.column)
