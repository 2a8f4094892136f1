use Rattle.area_trees.specs.LeastPaths.{IsPathFound, far_left}
use Rattle.area_trees.proofs.path.links_of_path.Given as goal

-- the links so far are the end of a path, the last one first
abbrev pub invariant-loop-left : goal.invariant-loop-left
invariant-loop-left l = IsPathFound l.graph l.fn.to l.fn.hop l.at l.left l.links.items

abbrev pub decreases-loop-left : goal.decreases-loop-left
decreases-loop-left l = far_left l.tree l.at l.left
