use Rattle.std.proofs.Common.{take}
use Rattle.graph_links.specs.Sides.{ends_in, LinksIn, AreFresh}
use Rattle.graph_links.proofs.row_update.row_updates.Given as goal

abbrev pub invariant-loop-vertex : goal.invariant-loop-vertex
invariant-loop-vertex l = AreFresh (ends_in l.fn.side) (LinksIn l.fn.side) (take l.vertex-index l.vertices) l.room.fresh.items
