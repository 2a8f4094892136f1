-- So far the links of the rows up to here.
use Rattle.std.proofs.Common.{map, take}
use Rattle.graph_links.specs.declared.row_update.RowUpdate.{RowUpdate}
use Rattle.graph_links.specs.Pairs.{AreApart}
use Rattle.graph_links.specs.Sides.{AreOfFresh, IsBrought, IsLinkRemoved}
use Rattle.graph_links.proofs.Apart.{Apart}
use Rattle.graph_links.proofs.changes.changed_links.Given as goal

abbrev pub invariant-loop-one : goal.invariant-loop-one
invariant-loop-one l = record {
  gone : AreOfFresh (IsLinkRemoved l.rows.entries) (take l.one-index l.fresh) l.changes.gone.items;
  came : AreOfFresh (IsBrought l.rows.entries) (take l.one-index l.fresh) l.changes.came.items;
  gone_once : Apart (map (λ (f : RowUpdate). f.vertex) l.fresh) → AreApart l.changes.gone.items;
  came_once : Apart (map (λ (f : RowUpdate). f.vertex) l.fresh) → AreApart l.changes.came.items;
}
