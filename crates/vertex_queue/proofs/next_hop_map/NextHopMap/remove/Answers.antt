use Rattle.std.proofs.Common.{List, sym, ap, subst, ◌∙◌}
use Rattle.std.specs.FinMap.{remove}
use Rattle.std.specs.List.Sorted.{IsStrictlySortedBy}
use Rattle.ospf_types.specs.declared.hop.NextHop.{NextHop}
use Rattle.ospf_types.specs.Hops.{hop_cmp}
use Rattle.vertex_queue.specs.Maps.{AreHopsInOrder, HopMap}
use Rattle.vertex_queue.proofs.VertexMaps.{all_removed}
use Rattle.vertex_queue.proofs.next_hop_map.NextHopMap.remove.Goals as goal

pub invariant_of-self : goal.invariant_of-self
invariant_of-self c = subst AreHopsInOrder (sym c.remove.ensures) (all_removed (λ (hops : List NextHop). IsStrictlySortedBy hop_cmp hops) c.self.inside.by_vertex c.args.vertex.now c.self.invariant)

pub returns : goal.returns
returns c = c.remove.ensures ∙ ap (λ (m : HopMap). remove m c.args.vertex.now) c.self.view_is
