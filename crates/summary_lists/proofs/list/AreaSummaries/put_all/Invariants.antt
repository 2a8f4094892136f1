use Rattle.std.proofs.Common.{◌≡◌, ◌+◌, ◌≤◌, length, drop}
use Rattle.summary_lists.proofs.Changing.{AreLeft}
use Rattle.summary_lists.proofs.list.AreaSummaries.put_all.Given as goal

abbrev pub invariant-loop-dest : goal.invariant-loop-dest
invariant-loop-dest l = record {
  area : l.self.area ≡ l.fn.self.area;
  changes : AreLeft l.metrics l.fn.self.list (drop l.dest-index l.metrics) l.self.list;
  room : length l.metrics ≤ l.self.room + l.dest-index;
}
