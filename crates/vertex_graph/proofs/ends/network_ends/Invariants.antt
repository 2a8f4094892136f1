use Rattle.std.proofs.Common.{◌≡◌, ◌++◌, map}
use Rattle.graph_links.specs.EndOrder.{listed_end}
use Rattle.vertex_graph.proofs.ends.network_ends.Given as goal

abbrev pub invariant-loop-router : goal.invariant-loop-router
invariant-loop-router l = l.ends.items ++ map listed_end l.router-iterator ≡ map listed_end l.initial.router-iterator
