use Rattle.std.proofs.Common.{ap, ◌∙◌}
use Rattle.std.specs.FinMap.{get}
use Rattle.intra.specs.Indexes.{IndexValue}
use Rattle.ospf_types.proofs.VertexOrder.{vertex_total, vertex_exact, vertices_order}
use Rattle.route_choice.proofs.KeyedMaps.{looked_up}
use Rattle.intra.proofs.area_index.AreaIndex.offered.Goals as goal

pub returns : goal.returns
returns c =
    c.get.ensures.value ∙ looked_up vertex_total vertex_exact vertices_order c.self.inside.offered.entries c.args.vertex ∙ ap (λ (i : IndexValue). get i.offered c.args.vertex) c.self.view_is
