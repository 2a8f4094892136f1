use Rattle.std.proofs.Common.{◌≡◌, ◌+◌, ◌≤◌, ◌++◌, length, take}
use Rattle.std.specs.Prelude.{slice_get, vec_len, vec_capacity}
use Rattle.std.specs.List.{filter_map}
use Rattle.lsdb.proofs.database.Database.add_keys.Given as goal

abbrev pub invariant-loop-row : goal.invariant-loop-row
invariant-loop-row l = record {
  so_far : l.keys.items ≡ l.fn.keys.items ++ filter_map (slice_get l.self.order) (take l.row-index l.rows);
  room : vec_len l.keys + length l.rows ≤ vec_capacity l.keys + l.row-index;
}
