use Rattle.vertex_map.proofs.Values.{same_values}
use Rattle.vertex_map.proofs.vertex_map.swap_with.Goals as goal

pub returns-then-place-index-clause-same : goal.returns-then-place-index-clause-same
returns-then-place-index-clause-same g c = same_values c.args.entries.now.entries c.swap_indices.new.self.entries c.swap_indices.ensures.reordered.2
