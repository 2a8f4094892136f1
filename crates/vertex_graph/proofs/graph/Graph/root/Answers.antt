use Rattle.std.proofs.Common.{subst}
use Rattle.vertex_graph.specs.Graphs.{HasFewRouters, HasCheapLinks}
use Rattle.vertex_graph.proofs.Metrics.{cheap_links}
use Rattle.vertex_graph.proofs.graph.Graph.root.Goals as goal

pub returns-clause-few : goal.returns-clause-few
returns-clause-few c = subst HasFewRouters c.self.view_is c.self.invariant.few

pub returns-clause-cheap : goal.returns-clause-cheap
returns-clause-cheap c =
    let i = c.self.inside in
    subst HasCheapLinks c.self.view_is (cheap_links i.root i.rows.entries i.interfaces.items c.self.invariant)
