use Rattle.std.proofs.Common.{Ordering, subst}
use Rattle.std.specs.List.Sorted.{IsSorted}
use Rattle.ospf_types.specs.declared.key.Dest.{Dest}
use Rattle.ospf_types.proofs.DerivedOrders.{dest_cmp_is}
use Rattle.ospf_types.proofs.Orders.{dest_total, dest_exact}
use Rattle.route_choice.proofs.SortedOnce.{strictly, same_items}
use Rattle.route_choice.proofs.DestOrder.{dests_order}
use Rattle.summaries.proofs.affected.sorted_unique.Goals as goal

pub returns-clause-in_order : goal.returns-clause-in_order
returns-clause-in_order c =
    let in_order = subst (λ (R : Dest → Dest → Ordering). IsSorted R c.sort.new.self.items) dest_cmp_is c.in_ok-sort.ensures.sorted in
    strictly dest_total dest_exact dests_order c.args.dests.items c.sort.new.self.items c.dedup.new.self.items c.sort.ensures.permutation in_order c.dedup.ensures.filtered

pub returns-clause-same : goal.returns-clause-same
returns-clause-same c =
    let in_order = subst (λ (R : Dest → Dest → Ordering). IsSorted R c.sort.new.self.items) dest_cmp_is c.in_ok-sort.ensures.sorted in
    same_items dest_total dest_exact dests_order c.args.dests.items c.sort.new.self.items c.dedup.new.self.items c.sort.ensures.permutation in_order c.dedup.ensures.filtered
