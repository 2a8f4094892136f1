use Rattle.std.proofs.Common.{List, sym, ap, subst, ◌∙◌}
use Rattle.std.specs.FinMap.{insert}
use Rattle.std.specs.List.Sorted.{IsStrictlySortedBy}
use Rattle.ospf_types.specs.declared.hop.NextHop.{NextHop}
use Rattle.ospf_types.specs.Hops.{hop_cmp}
use Rattle.vertex_queue.specs.Maps.{AreHopsInOrder, HopMap}
use Rattle.vertex_queue.proofs.VertexMaps.{all_inserted}
use Rattle.vertex_queue.proofs.next_hop_map.NextHopMap.set.Goals as goal

pub invariant_of-self : goal.invariant_of-self
invariant_of-self c = subst AreHopsInOrder (sym c.in_err-insert.ensures.err) c.self.invariant

pub invariant_of-self-2 : goal.invariant_of-self-2
invariant_of-self-2 c =
    subst AreHopsInOrder (sym c.in_ok-insert.ensures.ok) (all_inserted (λ (hops : List NextHop). IsStrictlySortedBy hop_cmp hops) c.self.inside.by_vertex c.args.vertex.now c.args.hops c.self.invariant c.as_slice.ensures.in_order)

pub returns-clause-set : goal.returns-clause-set
returns-clause-set c = c.in_ok-insert.ensures.ok ∙ ap (λ (m : HopMap). insert m c.args.vertex.now c.args.hops) c.self.view_is
