use Rattle.std.proofs.Common.{◌≤◌, length}
use Rattle.std.specs.HashMap.{spare}
use Rattle.graph_links.specs.Sides.{RowList, AreRowsPlaced}
use Rattle.graph_links.proofs.row_update.place.Given as goal

-- what the rest places completes the whole
abbrev pub invariant-loop-one : goal.invariant-loop-one
invariant-loop-one l = record {
  rest : (rows : RowList) → AreRowsPlaced l.room.fresh.items l.rows.entries rows → AreRowsPlaced l.fn.room.fresh.items l.fn.rows.entries rows;
  room : length l.room.fresh.items ≤ spare l.rows;
}

abbrev pub decreases-loop-one : goal.decreases-loop-one
decreases-loop-one l = length l.room.fresh.items
