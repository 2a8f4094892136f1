use Rattle.std.proofs.Common.{take}
use Rattle.std.specs.Prelude.{Contains}
use Rattle.vertex_graph.specs.GraphLink.{GraphLink}
use Rattle.area_trees.specs.LeastPaths.{IsNotBefore}
use Rattle.area_trees.proofs.last_link.TreeOf.last_link.Given as goal

-- none of the links so far is the last one
abbrev pub invariant-loop-link : goal.invariant-loop-link
invariant-loop-link l = (link : GraphLink) → Contains (take l.link-index l.link-items) link → IsNotBefore l.self.graph.now l.self.tree.now link l.hop
