use Rattle.std.proofs.Common.{◌<◌, sym, ap, subst, ◌∙◌}
use Rattle.std.specs.FinMap.{insert}
use Rattle.vertex_queue.specs.Maps.{AreBounded, DistanceMap, most_distance}
use Rattle.vertex_queue.proofs.VertexMaps.{all_inserted}
use Rattle.vertex_queue.proofs.distances.Distances.set.Goals as goal

pub invariant_of-self : goal.invariant_of-self
invariant_of-self c = subst AreBounded (sym c.in_err-insert.ensures.err) c.self.invariant

pub invariant_of-self-2 : goal.invariant_of-self-2
invariant_of-self-2 c =
    subst AreBounded (sym c.in_ok-insert.ensures.ok) (all_inserted (λ distance. distance < most_distance) c.self.inside.by_vertex c.args.vertex.now c.args.distance c.self.invariant c.requires)

pub returns-clause-set : goal.returns-clause-set
returns-clause-set c = c.in_ok-insert.ensures.ok ∙ ap (λ (m : DistanceMap). insert m c.args.vertex.now c.args.distance) c.self.view_is
