-- So far the ends at the vertex up to here.
use Rattle.std.proofs.Common.{length, ◌-◌, ◌≤◌}
use Rattle.graph_links.proofs.AtVertex.{ArePassed}
use Rattle.graph_links.proofs.at_vertex.past_from.Given as goal

abbrev pub invariant-loop-past : goal.invariant-loop-past
invariant-loop-past l = record {
  from : l.first ≤ l.past;
  within : l.past ≤ length l.ends;
  passed : ArePassed l.vertex l.ends l.past;
}

abbrev pub decreases-loop-past : goal.decreases-loop-past
decreases-loop-past l = length l.ends - l.past
