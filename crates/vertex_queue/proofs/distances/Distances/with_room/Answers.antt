use Rattle.std.proofs.Common.{◌<◌, sym, subst}
use Rattle.vertex_queue.specs.Maps.{AreBounded, most_distance}
use Rattle.vertex_queue.proofs.VertexMaps.{all_none}
use Rattle.vertex_queue.proofs.distances.Distances.with_room.Goals as goal

pub invariant_of-result : goal.invariant_of-result
invariant_of-result c = subst AreBounded (sym c.in_ok-by_vertex.ensures) (all_none (λ distance. distance < most_distance))
