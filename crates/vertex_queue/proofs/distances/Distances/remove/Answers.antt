use Rattle.std.proofs.Common.{◌<◌, sym, ap, subst, ◌∙◌}
use Rattle.std.specs.FinMap.{remove}
use Rattle.vertex_queue.specs.Maps.{AreBounded, DistanceMap, most_distance}
use Rattle.vertex_queue.proofs.VertexMaps.{all_removed}
use Rattle.vertex_queue.proofs.distances.Distances.remove.Goals as goal

pub invariant_of-self : goal.invariant_of-self
invariant_of-self c = subst AreBounded (sym c.remove.ensures) (all_removed (λ distance. distance < most_distance) c.self.inside.by_vertex c.args.vertex.now c.self.invariant)

pub returns : goal.returns
returns c = c.remove.ensures ∙ ap (λ (m : DistanceMap). remove m c.args.vertex.now) c.self.view_is
