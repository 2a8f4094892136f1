use Rattle.vertex_map.proofs.Values.{updated, vertices_equivalence}
use Rattle.indexmap.proofs.CallerLemmas.{updates-with_value_at}
use Rattle.vertex_map.proofs.vertex_map.write_at.Goals as goal

pub returns : goal.returns
returns g c = λ v at.
    updated c.args.entries.now.entries _ v c.args.kept
    (updates-with_value_at c.args.entries.now c.args.place c.args.kept vertices_equivalence c.len.ensures.unique v at.0 at.1).0
