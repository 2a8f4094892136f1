use Rattle.std.proofs.Common.{ℕ, List, sym, ap, subst, ◌∙◌}
use Rattle.std.specs.Map.{keys_of}
use Rattle.ospf_types.specs.declared.key.Dest.{Dest}
use Rattle.ospf_types.specs.declared.prefix.Prefix.{Prefix}
use Rattle.calculation.specs.Active.{IsRangeNamed}
use Rattle.calculation.specs.Calculations.{IsCalculationOf, IsTableOf}
use Rattle.calculation.specs.Summaries.{AreSummariesFor, RoutesDifferAmong}
use Rattle.summaries.specs.DueSummaries.{AreDueChanges, lists_of}
use Rattle.summaries.specs.Lists.{Metrics}
use Rattle.event_core.specs.Following.{RoutesValue, AreChanges, AreOtherItems}
use Rattle.event_core.proofs.Followed.{items_followed, changes_followed}
use Rattle.event_core.proofs.routes.Routes.follow.Goals as goal

pub follow-requires-clause-before : goal.follow-requires-clause-before
follow-requires-clause-before c =
    let before = c.requires.before in
    (before.0, subst (λ (r : RoutesValue). IsCalculationOf before.0 r.calculation) (sym c.self.view_is) before.1.calculation, before.2, before.3)

pub plan_summaries-requires : goal.plan_summaries-requires
plan_summaries-requires c =
    let b = c.requires.before in
    let old = c.self.inside in
    let due = subst (λ (r : RoutesValue). AreSummariesFor b.0 r.calculation r.summaries) (sym c.self.view_is) b.1.summaries in
    let told : List Dest = c.deref-3.result.now in
    let routes = subst (λ (ds : List Dest). RoutesDifferAmong ds old.calculation c.follow.new.self) (sym c.deref-3.ensures.value) c.in_ok-told.ensures.routes in
    let whole = subst (λ (ds : List Dest). IsRangeNamed c.args.named.range ds old.calculation.intra.entries) (sym c.deref-3.ensures.value) c.in_ok-told.ensures.named in
    record { before = (b.0, old.calculation, due, record { areas = b.2.areas; range = c.args.named.range; ranges = b.3; whole = whole; routes = routes }) }

pub change-requires : goal.change-requires
change-requires c = c.in_ok-items.ensures.in_order

pub returns-clause-items : goal.returns-clause-items
returns-clause-items c =
    let old = c.self.inside in
    let networks : List Prefix = c.in_ok-told.told.networks.items in
    let others = subst (λ (ps : List Prefix). AreOtherItems c.follow.new.self old.table.items ps c.in_ok-items.items.items) c.deref.ensures.value c.in_ok-items.ensures in
    let table = subst (λ (r : RoutesValue). IsTableOf r.calculation r.table.items) (sym c.self.view_is) c.requires.before.1.table in
    items_followed old.calculation c.follow.new.self old.table.items c.change.new.self.items networks c.in_ok-items.items.items c.in_ok-told.ensures.items others table c.in_ok-change.ensures.changed

pub returns-clause-summaries : goal.returns-clause-summaries
returns-clause-summaries c = c.in_ok-plan.ensures.kept c.carry_out.new.self c.carry_out.ensures.carried

pub returns-clause-exact : goal.returns-clause-exact
returns-clause-exact c =
    let old = c.self.inside in
    let new = c.carry_out.new.self in
    let networks : List Prefix = c.in_ok-told.told.networks.items in
    let others = subst (λ (ps : List Prefix). AreOtherItems c.follow.new.self old.table.items ps c.in_ok-items.items.items) c.deref.ensures.value c.in_ok-items.ensures in
    let table = subst (λ (r : RoutesValue). IsTableOf r.calculation r.table.items) (sym c.self.view_is) c.requires.before.1.table in
    let changes = changes_followed old.calculation c.follow.new.self old.table.items c.change.new.self.items networks c.in_ok-items.items.items c.in_ok-told.ensures.items others table c.in_ok-change.ensures.changed in
    let due = c.in_ok-plan.ensures.changes new c.carry_out.ensures.carried in
    record {
      networks = subst (λ (r : RoutesValue). AreChanges r.table.items c.change.new.self.items c.in_ok-changes.changes.items) c.self.view_is
          (subst (AreChanges old.table.items c.change.new.self.items) (sym (c.in_ok-changes.ensures ∙ ap keys_of c.deref-2.ensures.value)) changes);
      due = subst (λ (r : RoutesValue). AreDueChanges c.carry_out.result (lists_of r.summaries) (lists_of new)) c.self.view_is
          (subst (λ (changes : List (ℕ × Metrics)). AreDueChanges changes (lists_of old.summaries) (lists_of new)) (sym c.carry_out.ensures.changes) due);
    }
