use Rattle.std.proofs.Common.{ap, subst, ◌∙◌}
use Rattle.std.specs.FinMap.{len}
use Rattle.vertex_queue.specs.Maps.{AreHopsInOrder, HopMap}
use Rattle.vertex_queue.proofs.next_hop_map.NextHopMap.len.Goals as goal

pub returns-clause-value : goal.returns-clause-value
returns-clause-value c = c.len.ensures.value ∙ ap (λ (m : HopMap). len m) c.self.view_is

pub returns-clause-in_order : goal.returns-clause-in_order
returns-clause-in_order c = subst AreHopsInOrder c.self.view_is c.self.invariant
