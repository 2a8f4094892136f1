use Rattle.std.proofs.Common.{List, sym, subst}
use Rattle.std.specs.List.Sorted.{IsStrictlySortedBy}
use Rattle.ospf_types.specs.declared.hop.NextHop.{NextHop}
use Rattle.ospf_types.specs.Hops.{hop_cmp}
use Rattle.vertex_queue.specs.Maps.{AreHopsInOrder}
use Rattle.vertex_queue.proofs.VertexMaps.{all_none}
use Rattle.vertex_queue.proofs.next_hop_map.NextHopMap.clear.Goals as goal

pub invariant_of-self : goal.invariant_of-self
invariant_of-self c = subst AreHopsInOrder (sym c.clear.ensures) (all_none (λ (hops : List NextHop). IsStrictlySortedBy hop_cmp hops))
