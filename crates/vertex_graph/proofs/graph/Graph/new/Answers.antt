use Rattle.std.proofs.Common.{List, sym, subst}
use Rattle.graph_links.specs.declared.link.Up.{Up}
use Rattle.vertex_graph.specs.Rows.{AreRows}
use Rattle.graph_links.specs.Sides.{RowList}
use Rattle.vertex_graph.proofs.Changed.{no_rows}
use Rattle.vertex_graph.proofs.graph.Graph.new.Goals as goal

pub invariant_of-result : goal.invariant_of-result
invariant_of-result c = subst (λ (p : RowList × List Up). AreRows c.args.root p.0 p.1) (λ k. (sym c.with_hasher.ensures.empty k, sym c.new.ensures.items k)) (no_rows c.args.root)
