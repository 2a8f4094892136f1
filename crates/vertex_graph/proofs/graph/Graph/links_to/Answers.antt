use Rattle.std.proofs.Common.{subst}
use Rattle.vertex_graph.specs.Graphs.{AreLinksTo}
use Rattle.vertex_graph.proofs.graph.Graph.links_to.Goals as goal

pub returns-clause-exact : goal.returns-clause-exact
returns-clause-exact c = subst (λ v. AreLinksTo c.args.self.now v c.links_to_at.result.now) c.without_hint.ensures c.links_to_at.ensures.exact
