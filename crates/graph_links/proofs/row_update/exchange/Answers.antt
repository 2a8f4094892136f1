use Rattle.std.proofs.Common.{Some, cond, ap, ◌∙◌}
use Rattle.std.specs.FinMap.{find}
use Rattle.indexmap.proofs.CallerLemmas.{updates-with_value_at}
use Rattle.ospf_types.specs.Vertices.{vertex_cmp}
use Rattle.vertex_map.proofs.Values.{vertices_equivalence}
use Rattle.graph_links.specs.declared.row.Row.{Row}
use Rattle.graph_links.proofs.VertexTests.{found_after, is_vertex}
use Rattle.graph_links.proofs.row_update.exchange.Goals as goal

pub returns-clause-placed : goal.returns-clause-placed
returns-clause-placed c v at w =
    let before = c.args.rows.now.entries in
    let written : Row = c.replace.new.dest in
    found_after before _ v (Some written) (updates-with_value_at c.args.rows.now c.args.place written vertices_equivalence c.len.ensures.unique v at.0 at.1).0 w
    ∙ ap (λ (row : Row). cond (is_vertex w v) (Some row) (find vertex_cmp w before)) c.replace.ensures.after
