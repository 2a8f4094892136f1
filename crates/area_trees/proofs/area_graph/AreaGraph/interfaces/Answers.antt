use Rattle.std.proofs.Common.{ap, ◌∙◌}
use Rattle.std.proofs.lemmas.Result.{on_ok_weaker}
use Rattle.area_trees.specs.Areas.{AreaGraphValue}
use Rattle.area_trees.proofs.AreaGraphs.{graph_same}
use Rattle.area_trees.proofs.area_graph.AreaGraph.interfaces.Goals as goal

pub returns-clause-right : goal.returns-clause-right
returns-clause-right c =
    let new : AreaGraphValue = record { graph = c.interfaces.new.self; networks = c.self.inside.networks } in
    on_ok_weaker c.interfaces.result (λ taken d. graph_same d c.args.self.now new (c.interfaces.ensures.ends ∙ ap (λ (v : AreaGraphValue). v.graph.ends) c.self.view_is) (ap (λ (v : AreaGraphValue). v.networks) c.self.view_is)) c.interfaces.ensures.interfaces
