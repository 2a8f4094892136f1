-- The place that is tried first belongs to the destination.
use Rattle.std.proofs.Common.{◌≡◌, List, sym, ap, subst, ◌∙◌}
use Rattle.std.specs.declared.cmp.Ordering.TheVariants.{Equal}
use Rattle.ospf_types.specs.Keys.{dest_cmp}
use Rattle.ospf_types.proofs.DerivedOrders.{dest_cmp_is}
use Rattle.summary_lists.specs.declared.due.DueSummary.{DueSummary}
use Rattle.summary_lists.specs.Lists.{AreaSummariesValue, AreInOrder}
use Rattle.summary_lists.specs.Places.{IsSummaryAt}
use Rattle.summary_lists.proofs.Placing.{is_at}
use Rattle.summary_lists.proofs.list.AreaSummaries.place.Goals as goal

pub returns-in-Equal-clause-found : goal.returns-in-Equal-clause-found
returns-in-Equal-clause-found c =
    let x = c.in-Some.due.now in
    let d = c.args.dest.now in
    let list = c.as_slice-list.result.now in
    let equal : dest_cmp x.dest d ≡ Equal = (λ i. sym dest_cmp_is i x.dest d) ∙ sym c.in-Equal.ensures in
    let stands = c.in-Some.ensures.lookup.3 in
    let kept : list ≡ c.args.self.now.list = c.as_slice-list.ensures.value ∙ ap (λ (w : AreaSummariesValue). w.list) c.self.view_is in
    let ordered = subst AreInOrder (sym c.as_slice-list.ensures.value) c.self.invariant.0 in
    subst (λ (ds : List DueSummary). IsSummaryAt ds d c.args.near) kept (is_at list ordered d c.args.near stands.0 (λ e. ap (λ (due : DueSummary). dest_cmp due.dest d) (sym (stands.1 e)) ∙ equal))
