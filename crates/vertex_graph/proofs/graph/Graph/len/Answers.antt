use Rattle.std.proofs.Common.{sym, ap, subst, ◌∙◌}
use Rattle.std.specs.FinMap.{len}
use Rattle.std.specs.List.{IsDistinct}
use Rattle.std.specs.Map.{keys_of}
use Rattle.vertex_graph.specs.Graphs.{GraphValue}
use Rattle.graph_links.proofs.VertexTests.{equals_all}
use Rattle.vertex_graph.proofs.Changed.{len_graph}
use Rattle.vertex_graph.proofs.graph.Graph.len.Goals as goal

pub returns : goal.returns
returns c =
    let i = c.self.inside in
    c.len.ensures.len ∙ sym (len_graph i.root i.rows.entries i.interfaces.items (subst (λ eq. IsDistinct eq (keys_of i.rows.entries)) equals_all c.len.ensures.unique))
    ∙ ap (λ (g : GraphValue). len g.ends) c.self.view_is
