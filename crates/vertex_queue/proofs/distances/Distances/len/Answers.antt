use Rattle.std.proofs.Common.{ap, ◌∙◌}
use Rattle.std.specs.FinMap.{len}
use Rattle.vertex_queue.specs.Maps.{DistanceMap}
use Rattle.vertex_queue.proofs.distances.Distances.len.Goals as goal

pub returns-clause-value : goal.returns-clause-value
returns-clause-value c = c.len.ensures.value ∙ ap (λ (m : DistanceMap). len m) c.self.view_is
