use Rattle.std.proofs.Common.{sym, ap, subst, ◌∙◌}
use Rattle.std.specs.Prelude.{◌↔◌, IsTrue, is_some}
use Rattle.ospf_types.specs.declared.entry.Vertex.TheVariants.{Router}
use Rattle.graph_links.specs.declared.row.Row.{Row}
use Rattle.vertex_graph.specs.Graphs.{GraphValue, HasRoot}
use Rattle.vertex_graph.specs.Rows.{graph_of}
use Rattle.graph_links.proofs.VertexTests.{found}
use Rattle.vertex_graph.proofs.Changed.{get_graph, root_there, same_some}
use Rattle.vertex_graph.proofs.graph.Graph.has_root.Goals as goal

pub returns : goal.returns
returns c =
    let i = c.self.inside in
    let rows = i.rows.entries in
    subst (λ (g : GraphValue). IsTrue c.contains_key.result ↔ HasRoot g) c.self.view_is
    (root_there (graph_of i.root rows i.interfaces.items) c.contains_key.result
    (c.contains_key.ensures ∙ ap is_some (found (Router i.root) rows) ∙ same_some (λ (row : Row). row.ends.items) _ ∙ ap is_some (sym (get_graph i.root rows i.interfaces.items (Router i.root)))))
