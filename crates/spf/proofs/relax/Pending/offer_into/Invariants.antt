use Rattle.std.proofs.Common.{take}
use Rattle.std.specs.FinMap.{get}
use Rattle.vertex_graph.specs.Graphs.{LinksOf}
use Rattle.spf.specs.Offers.{Into, AreMade}
use Rattle.spf.proofs.relax.Pending.offer_into.Given as goal

abbrev pub invariant-loop-vertex : goal.invariant-loop-vertex
invariant-loop-vertex l =
    AreMade (Into (LinksOf l.graph) l.graph.root (get l.distances) (take l.vertex-index l.vertices)) (get l.distances) (get l.initial.self.queue) (get l.self.queue) l.initial.self.stale l.self.stale
