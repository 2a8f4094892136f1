-- The changes of a list are just what differs, where no destination is given the metric that it
-- had.
--   metric_of: a destination that is named has a metric
--   changes_between: the list afterwards has just the named destinations otherwise than the list
--     before
use Rattle.std.proofs.Common.{◌≡◌, ℕ, List, Option, Some, None, refl, sym, subst, inl, inr}
use Rattle.std.specs.List.{Contains}
use Rattle.std.specs.Map.{keys_of}
use Rattle.ospf_types.specs.declared.key.Dest.{Dest}
use Rattle.ospf_types.proofs.Elements.{mapped_from}
use Rattle.ospf_types.proofs.Orders.{dest_total, dest_exact}
use Rattle.route_choice.proofs.KeyedMaps.{listed_or_not}
use Rattle.summary_lists.specs.declared.due.DueSummary.{DueSummary}
use Rattle.summary_lists.specs.Lists.{AreChangesBetween, AreMetricsInOrder, IsChangedBy, IsMetricIn, Metrics, due_for}

pub metric_of : (metrics : Metrics) (d : Dest) → Contains (keys_of metrics) d → (metric : Option ℕ) × Contains metrics (d, metric)
metric_of metrics d c =
    let (e, there, is) = mapped_from (λ (e : Dest × Option ℕ). e.0) metrics d c in
    (e.1, subst (λ (k : Dest). Contains metrics (k, e.1)) is there)

-- a list has a destination at one metric
one_metric : (list : List DueSummary) (d : Dest) (a b : Option ℕ) → IsMetricIn list d a → IsMetricIn list d b → a ≡ b
one_metric list d (Some k) b first second = sym ((second k).1 ((first k).0 refl))
one_metric list d None None first second = refl
one_metric list d None (Some k) first second = (first k).1 ((second k).0 refl)

module _ (metrics : Metrics) (old new : List DueSummary) (changed : IsChangedBy metrics old new)
    (differ : (d : Dest) (metric : Option ℕ) → Contains metrics (d, metric) → IsMetricIn old d metric → ⊥) where
  named : (d : Dest) (metric : Option ℕ) → IsMetricIn new d metric → (IsMetricIn old d metric → ⊥) → Contains metrics (d, metric)
  named d metric now before = elim (listed_or_not dest_total dest_exact d (keys_of metrics)) [
    | inl c ↦
        let (given, there) = metric_of metrics d c in
        subst (λ (m : Option ℕ). Contains metrics (d, m)) (one_metric new d given metric (changed.here d given there) now) there
    | inr absent ↦ absurd (before (λ m.
        let stays = changed.others (due_for d m) absent in
        (λ is. stays.0 ((now m).0 is), λ c. (now m).1 (stays.1 c))))
  ]

  pub changes_between : AreMetricsInOrder metrics → AreChangesBetween metrics old new
  changes_between in_order = record {
    in_order = in_order;
    exact = λ d metric. (λ c. (changed.here d metric c, differ d metric c), λ h. named d metric h.0 h.1);
  }
