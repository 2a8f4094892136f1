-- The gathered prefixes, sorted, without duplicates.
use Rattle.std.proofs.Common.{◌≡◌, length, ap, sym, ◌∙◌}
use Rattle.std.specs.Cmp.{nat_cmp_total}
use Rattle.std.proofs.lemmas.Map.Lookups.{exact_unsigned}
use Rattle.intra.specs.Intras.{IntraValue}
use Rattle.ospf_types.proofs.Orders.{network_total, network_exact}
use Rattle.intra.specs.Updating.{IsBroughtTo}
use Rattle.ospf_types.proofs.KeyOrders.{numbers_order, prefixes_order}
use Rattle.route_choice.proofs.SortedOnce.{strictly, same_items}
use Rattle.intra.proofs.Placing.{first_at, first_weaker, brought_grown, items_of_slice, other_at}
use Rattle.intra.proofs.intra.Intra.follow.Goals as goal

pub returns-clause-prefixes_in_order : goal.returns-clause-prefixes_in_order
returns-clause-prefixes_in_order c =
    strictly network_total network_exact prefixes_order c.follow_areas.new.named.prefixes.items c.sort.new.self.items c.dedup.new.self.items c.sort.ensures.permutation c.in_ok-sort.ensures.sorted c.dedup.ensures.filtered

pub returns-clause-routers_in_order : goal.returns-clause-routers_in_order
returns-clause-routers_in_order c =
    strictly nat_cmp_total exact_unsigned numbers_order c.follow_areas.new.named.routers.items c.sort_unstable.new.self.items c.dedup-2.new.self.items c.sort_unstable.ensures.permutation c.sort_unstable.ensures.sorted c.dedup-2.ensures.filtered

pub returns-clause-followed : goal.returns-clause-followed
returns-clause-followed c =
    let v = c.args.inputs.now in
    let all = c.follow_areas.new.named.prefixes.items in
    let kept = c.dedup.new.self.items in
    let same = same_items network_total network_exact prefixes_order all c.sort.new.self.items kept c.sort.ensures.permutation c.in_ok-sort.ensures.sorted c.dedup.ensures.filtered in
    let keys = c.args.dirty.now.keys.items in
    let vertices = c.args.dirty.now.vertices.items in
    let interfaces = c.args.dirty.now.interfaces.items in
    let P = IsBroughtTo v.root keys vertices interfaces in
    let was : c.as_mut_slice-areas.result.now ≡ c.args.self.now.areas = c.as_mut_slice-areas.ensures.value ∙ ap (λ (w : IntraValue). w.areas) c.self.view_is in
    let first = c.in_ok-follow_areas.ensures.followed in
    let is = items_of_slice c.self.inside.areas c.follow_areas.new.areas (first.as_many ∙ ap length c.as_mut_slice-areas.ensures.value) in
    first_at (P kept) v.areas (length v.areas) was (sym is)
    (first_weaker (P all) (P kept) v.areas c.as_mut_slice-areas.result.now c.follow_areas.new.areas (length v.areas) (brought_grown v.root keys vertices interfaces all kept (λ p. (same p).1)) first)

pub returns-clause-routers : goal.returns-clause-routers
returns-clause-routers c = λ r.
    let count = length c.args.inputs.now.areas in
    let same = same_items nat_cmp_total exact_unsigned numbers_order c.follow_areas.new.named.routers.items c.sort_unstable.new.self.items c.dedup-2.new.self.items c.sort_unstable.ensures.permutation c.sort_unstable.ensures.sorted c.dedup-2.ensures.filtered r in
    let exact = c.in_ok-follow_areas.ensures.exact r in
    let was : c.as_mut_slice-areas.result.now ≡ c.args.self.now.areas = c.as_mut_slice-areas.ensures.value ∙ ap (λ (w : IntraValue). w.areas) c.self.view_is in
    let is = items_of_slice c.self.inside.areas c.follow_areas.new.areas (c.in_ok-follow_areas.ensures.followed.as_many ∙ ap length c.as_mut_slice-areas.ensures.value) in
    other_at count r was (sym is) (λ d. exact.0 (same.0 d), λ w. same.1 (exact.1 w))
