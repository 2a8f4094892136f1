use Rattle.std.proofs.Common.{ap, subst, ◌∙◌}
use Rattle.vertex_graph.specs.Graphs.{GraphValue, AreLinksFrom}
use Rattle.area_trees.specs.Areas.{AreaTreeValue}
use Rattle.area_trees.proofs.area_tree.AreaTree.links_from.Goals as goal

pub returns-clause-exact : goal.returns-clause-exact
returns-clause-exact c = subst (λ (g : GraphValue). AreLinksFrom g c.args.vertex c.links_from.result.now) (c.graph.ensures.value ∙ ap (λ (t : AreaTreeValue). t.area.graph) c.self.view_is) c.links_from.ensures.exact
