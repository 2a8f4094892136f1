use Rattle.std.proofs.Common.{take}
use Rattle.graph_links.specs.Pairs.{AddsBy, AreCheap}
use Rattle.graph_links.proofs.vertex_pair.VertexPair.list_by_ways.Given as goal

abbrev pub invariant-loop-way : goal.invariant-loop-way
invariant-loop-way l = record {
  listed : AddsBy l.self (take l.way-index l.ways) l.fn.links.items l.links.items;
  cheap : AreCheap l.fn.links.items → AreCheap l.links.items;
}
