use Rattle.std.proofs.Common.{take}
use Rattle.graph_links.specs.Pairs.{AddsToList, IsWay}
use Rattle.graph_links.proofs.parallel_links.list_over_interfaces.Given as goal

abbrev pub invariant-loop-up : goal.invariant-loop-up
invariant-loop-up l = AddsToList l.fn.ways.items l.ways.items (IsWay l.root (take l.up-index l.interfaces) l.root l.end)
