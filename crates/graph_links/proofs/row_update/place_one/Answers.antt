use Rattle.std.proofs.Common.{Some, None, cond, ap, ◌∙◌}
use Rattle.std.specs.FinMap.{find}
use Rattle.ospf_types.specs.declared.entry.Vertex.{Vertex}
use Rattle.ospf_types.specs.Vertices.{vertex_cmp}
use Rattle.graph_links.proofs.VertexTests.{found_after, is_vertex}
use Rattle.graph_links.proofs.Placing.{one_placed}
use Rattle.graph_links.proofs.row_update.place_one.Goals as goal

pub returns-in-Some-clause-placed : goal.returns-in-Some-clause-placed
returns-in-Some-clause-placed c = one_placed c.args.fresh (Some c.in-Some.row) c.args.rows.now.entries c.put_in_room.new.rows.entries c.in-Some.is c.put_in_room.ensures.placed

pub returns-in-None-clause-placed : goal.returns-in-None-clause-placed
returns-in-None-clause-placed c =
    let before = c.args.rows.now.entries in
    let after = c.swap_remove.new.self.entries in
    one_placed c.args.fresh None before after c.in-None.is
    (λ v. found_after before after c.vertex.result None c.swap_remove.ensures.updates.0 v ∙ ap (λ (w : Vertex). cond (is_vertex v w) None (find vertex_cmp v before)) c.vertex.ensures)
