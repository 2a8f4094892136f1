use Rattle.std.proofs.Common.{◌<◌, ℕ, Option, sym, ap, subst, ◌∙◌}
use Rattle.std.specs.Prelude.{IfSome}
use Rattle.std.specs.FinMap.{get}
use Rattle.vertex_queue.specs.Maps.{DistanceMap, most_distance}
use Rattle.vertex_queue.proofs.distances.Distances.get.Goals as goal

pub returns-clause-value : goal.returns-clause-value
returns-clause-value c = c.copied.ensures ∙ c.get.ensures ∙ ap (λ (m : DistanceMap). get m c.args.vertex.now) c.self.view_is

pub returns-clause-bounded : goal.returns-clause-bounded
returns-clause-bounded c = subst (λ (o : Option ℕ). IfSome o (λ distance. distance < most_distance)) (sym (c.copied.ensures ∙ c.get.ensures)) (c.self.invariant c.args.vertex.now)
