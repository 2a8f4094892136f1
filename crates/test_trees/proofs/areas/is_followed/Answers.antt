use Rattle.std.proofs.Common.{List, [], ◌∷◌}
use Rattle.vertex_graph.specs.Up.{Up}
use Rattle.test_trees.proofs.areas.is_followed.Goals as goal

pub follows-requires-clause-tree : goal.follows-requires-clause-tree
follows-requires-clause-tree c =
    let ups : List Up = record { id = 1; address = 1 } ∷ [] in
    (1, ups, c.in_ok-tree.ensures.right)
