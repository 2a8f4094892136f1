use Rattle.std.proofs.Common.{◌<◌, sym, subst}
use Rattle.vertex_queue.specs.Maps.{AreBounded, most_distance}
use Rattle.vertex_queue.proofs.VertexMaps.{all_none}
use Rattle.vertex_queue.proofs.distances.Distances.clear.Goals as goal

pub invariant_of-self : goal.invariant_of-self
invariant_of-self c = subst AreBounded (sym c.clear.ensures) (all_none (λ distance. distance < most_distance))
