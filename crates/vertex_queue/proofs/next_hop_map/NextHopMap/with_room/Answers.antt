use Rattle.std.proofs.Common.{List, sym, subst}
use Rattle.std.specs.List.Sorted.{IsStrictlySortedBy}
use Rattle.ospf_types.specs.declared.hop.NextHop.{NextHop}
use Rattle.ospf_types.specs.Hops.{hop_cmp}
use Rattle.vertex_queue.specs.Maps.{AreHopsInOrder}
use Rattle.vertex_queue.proofs.VertexMaps.{all_none}
use Rattle.vertex_queue.proofs.next_hop_map.NextHopMap.with_room.Goals as goal

pub invariant_of-result : goal.invariant_of-result
invariant_of-result c = subst AreHopsInOrder (sym c.in_ok-by_vertex.ensures) (all_none (λ (hops : List NextHop). IsStrictlySortedBy hop_cmp hops))
