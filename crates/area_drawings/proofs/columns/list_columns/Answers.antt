use Rattle.area_drawings.proofs.ColumnLists.{ascending, of_vertices}
use Rattle.area_drawings.proofs.columns.list_columns.Goals as goal

pub returns-clause-in_order : goal.returns-clause-in_order
returns-clause-in_order c =
    ascending c.args.reached.now c.in_ok-columns.columns.items c.sort_unstable.new.self.items c.dedup.new.self.items c.in_ok-columns.ensures c.sort_unstable.ensures.permutation c.sort_unstable.ensures.sorted c.dedup.ensures.filtered

pub returns-clause-exact : goal.returns-clause-exact
returns-clause-exact c =
    of_vertices c.args.reached.now c.in_ok-columns.columns.items c.sort_unstable.new.self.items c.dedup.new.self.items c.in_ok-columns.ensures c.sort_unstable.ensures.permutation c.sort_unstable.ensures.sorted c.dedup.ensures.filtered
