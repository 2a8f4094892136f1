use Rattle.std.proofs.Common.{subst}
use Rattle.vertex_graph.specs.Graphs.{AreLinksFrom}
use Rattle.vertex_graph.proofs.graph.Graph.links_from.Goals as goal

pub returns-clause-exact : goal.returns-clause-exact
returns-clause-exact c = subst (λ v. AreLinksFrom c.args.self.now v c.links_from_at.result.now) c.without_hint.ensures c.links_from_at.ensures.exact
