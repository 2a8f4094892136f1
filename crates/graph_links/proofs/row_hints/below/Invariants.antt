use Rattle.std.proofs.Common.{length, ◌-◌}
use Rattle.graph_links.proofs.row_hints.below.Given as goal

abbrev pub decreases-loop-past : goal.decreases-loop-past
decreases-loop-past l = length l.links - l.past
