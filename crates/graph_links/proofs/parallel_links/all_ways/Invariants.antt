use Rattle.std.proofs.Common.{take}
use Rattle.graph_links.proofs.Adding.{AreWaysBy}
use Rattle.graph_links.proofs.parallel_links.all_ways.Given as goal

abbrev pub invariant-loop-end : goal.invariant-loop-end
invariant-loop-end l = AreWaysBy l.local.root l.local.interfaces.now l.router (take l.end-index l.ends) l.ways.items
