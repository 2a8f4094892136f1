use Rattle.std.proofs.Common.{◌≡◌, ◌++◌}
use Rattle.std.specs.List.{filter_map}
use Rattle.vertex_graph.specs.Ends.{end_of_link}
use Rattle.vertex_graph.proofs.ends.router_ends.Given as goal

abbrev pub invariant-loop-link : goal.invariant-loop-link
invariant-loop-link l = l.ends.items ++ filter_map end_of_link l.link-iterator ≡ filter_map end_of_link l.initial.link-iterator
