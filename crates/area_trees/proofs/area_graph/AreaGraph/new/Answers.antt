use Rattle.std.proofs.Common.{ap}
use Rattle.vertex_graph.specs.Graphs.{GraphValue}
use Rattle.area_trees.proofs.AreaGraphs.{graph_of_none}
use Rattle.area_trees.proofs.area_graph.AreaGraph.new.Goals as goal

pub returns-clause-right : goal.returns-clause-right
returns-clause-right c = graph_of_none (record { graph = c.new.result; networks = c.new-2.result }) (ap (λ (g : GraphValue). g.ends) c.new.ensures) c.new-2.ensures
