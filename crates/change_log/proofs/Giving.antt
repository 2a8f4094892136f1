-- The changes give the table and the due summaries: those of a core from nothing, and then those of
-- the next one.
--   give_all: the changes from nothing to a core
--   give_more: the differences, after the changes that were reported before
use Rattle.std.proofs.Common.{◌≡◌, ℕ, Bool, true, false, List, [], ◌∷◌, ◌++◌, map, Option, Some, None, refl, sym, ap, subst, ◌∙◌}
use Rattle.std.specs.FinMap.{get, empty, entries, get-empty}
use Rattle.std.specs.List.{Contains, flat_map}
use Rattle.std.specs.List.Sorted.{IsStrictlySortedBy}
use Rattle.std.specs.Map.{keys_of}
use Rattle.ospf_types.specs.declared.key.Dest.{Dest}
use Rattle.ospf_types.specs.declared.prefix.Prefix.{Prefix}
use Rattle.ospf_types.specs.Keys.{dest_cmp}
use Rattle.ospf_types.proofs.Elements.{no_element, first_element, later_element, mapped_element, mapped_from}
use Rattle.route_table.specs.declared.table.Item.{Item}
use Rattle.summary_lists.specs.declared.due.DueSummary.{DueSummary}
use Rattle.summary_lists.specs.Lists.{AreChangesBetween, IsMetricIn, Metrics, due_for}
use Rattle.change_log.specs.Lines.{Change}
use Rattle.change_log.specs.Runs.{answered}
use Rattle.event_core.specs.Cores.{CoreValue}
use Rattle.event_core.specs.DueSummaries.{AreDueChanges}
use Rattle.change_log.specs.Changes.{AreDifferences, AreMetricsOf, DueMetrics, Give, Items, all_of, area_changes, area_due, due_change, item_set, items_after, items_from, metrics_after, metrics_from, network_change, summary_due}
use Rattle.change_log.proofs.DueChanges.{AreDistinct, AreSound, IsSound, Lists, due_follow, ids_of, metric_in, metrics_both, networks_leave}
use Rattle.change_log.proofs.ItemChanges.{items_all, items_both, items_follow}

-- ---- after the changes that were reported before

pub give_more : (before told : List Change) (old new : CoreValue) → Give before old → AreDifferences old new told → ids_of new.summaries ≡ ids_of old.summaries → AreDistinct (ids_of old.summaries) → AreSound new.summaries
    → Give (before ++ told) new
give_more before told old new given h ids distinct sound =
    let named : List Change = map (network_change new.table.items) h.networks in
    let due : List Change = flat_map area_changes h.due in
    record {
      items = items_both empty before told ∙ ap (λ (m : Items). items_from m told) given.items ∙ ap (items_from old.table.items) h.is
          ∙ items_follow old.table.items new.table.items h.networks h.due h.items;
      due = λ g has.
          let so_far : DueMetrics = metrics_from g.0 empty before in
          let all : metrics_from g.0 empty (before ++ told) ≡ metrics_from g.0 so_far due =
          metrics_both g.0 empty before told ∙ ap (metrics_from g.0 so_far) h.is ∙ metrics_both g.0 so_far named due
          ∙ ap (λ (m : DueMetrics). metrics_from g.0 m due) (networks_leave g.0 new.table.items h.networks so_far) in
          subst (AreMetricsOf g.1) (sym all)
          (due_follow g.0 h.due old.summaries new.summaries h.summaries ids distinct sound so_far
          (λ e there is. subst (λ (id : ℕ). AreMetricsOf e.1 (metrics_from id empty before)) is (given.due e there)) g has refl);
    }

-- nothing was reported, and nothing differs
pub give_still : (before told : List Change) (c : CoreValue) → Give before c → told ≡ [] → Give (before ++ told) c
give_still before told c given none = subst (λ (changes : List Change). Give changes c) (sym (ap (λ l. before ++ l) none ∙ append_none before)) given
  where
    append_none : (xs : List Change) → xs ++ [] ≡ xs
    append_none [] = refl
    append_none (x ∷ xs) = ap (λ l. x ∷ l) (append_none xs)

-- one more was reported, which changed nothing
pub give_unchanged : (before : List Change) (change : Change) (c : CoreValue) → Give before c → ((items : Items) → items_after items change ≡ items) → ((id : ℕ) (m : DueMetrics) → metrics_after id m change ≡ m) → Give (before ++ change ∷ []) c
give_unchanged before change c given items metrics = record {
  items = items_both empty before (change ∷ []) ∙ items (items_from empty before) ∙ given.items;
  due = λ e has. subst (AreMetricsOf e.1) (sym (metrics_both e.0 empty before (change ∷ []) ∙ metrics e.0 (metrics_from e.0 empty before))) (given.due e has);
}

-- it was reported, or not
pub give_answered : (answers : Bool) (before : List Change) (change : Change) (c : CoreValue) → Give before c → ((items : Items) → items_after items change ≡ items) → ((id : ℕ) (m : DueMetrics) → metrics_after id m change ≡ m)
    → Give (before ++ answered answers change) c
give_answered true before change c given items metrics = give_unchanged before change c given items metrics
give_answered false before change c given items metrics = give_still before [] c given refl

-- ---- what a core begins with

abbrev metric_of : DueSummary → Dest × Option ℕ
metric_of due = (due.dest, Some due.metric)

abbrev metrics_of : List DueSummary → Metrics
metrics_of list = map metric_of list

-- the lists of before, in which nothing was due
abbrev without : Lists → Lists
without lists = map (λ (e : ℕ × List DueSummary). (e.0, [])) lists

abbrev all_metrics : Lists → List (ℕ × Metrics)
all_metrics lists = map (λ (e : ℕ × List DueSummary). (e.0, metrics_of e.1)) lists

keys_are : (list : List DueSummary) → keys_of (metrics_of list) ≡ map (λ due. due.dest) list
keys_are [] = refl
keys_are (x ∷ xs) = ap (λ (l : List Dest). x.dest ∷ l) (keys_are xs)

metric_there : (list : List DueSummary) → IsSound list → (x : DueSummary) → Contains list x → IsMetricIn list x.dest (Some x.metric)
metric_there list sound x has =
    let found = metric_in list sound x.dest in
    let is : x ≡ due_for x.dest x.metric = λ i. record { kind = sound.kinds x has i; dest = x.dest; metric = x.metric } in
    subst (λ (o : Option ℕ). IsMetricIn list x.dest o) ((found.1 x.metric).1 (subst (λ (y : DueSummary). Contains list y) is has)) found.1

none_there : (d : Dest) (k : ℕ) → IsMetricIn [] d (Some k) → ⊥
none_there d k h = no_element (due_for d k) ((h k).0 refl)

nothing_there : (d : Dest) → IsMetricIn [] d None
nothing_there d m = (λ e. absurd cc, λ c. absurd (no_element (due_for d m) c))

module _ (list : List DueSummary) (sound : IsSound list) where
  named : (d : Dest) (o : Option ℕ) → Contains (metrics_of list) (d, o) → IsMetricIn list d o × (IsMetricIn [] d o → ⊥)
  named d o c =
      let (x, has, is) = mapped_from metric_of list (d, o) c in
      subst (λ (p : Dest × Option ℕ). IsMetricIn list p.0 p.1 × (IsMetricIn [] p.0 p.1 → ⊥)) is (metric_there list sound x has, none_there x.dest x.metric)

  differs : (d : Dest) (o : Option ℕ) → IsMetricIn list d o → (IsMetricIn [] d o → ⊥) → Contains (metrics_of list) (d, o)
  differs d None is other = absurd (other (nothing_there d))
  differs d (Some k) is other = mapped_element metric_of list (due_for d k) ((is k).0 refl)

  from_nothing : AreChangesBetween (metrics_of list) [] list
  from_nothing = record {
    in_order = subst (IsStrictlySortedBy dest_cmp) (sym (keys_are list)) sound.in_order;
    exact = λ d o. (named d o, λ both. differs d o both.0 both.1);
  }

all_from_nothing : (lists : Lists) → AreSound lists → AreDueChanges (all_metrics lists) (without lists) lists
all_from_nothing [] sound = refl
all_from_nothing (e ∷ lists) sound = ((refl, from_nothing e.1 (sound e (first_element e lists))), all_from_nothing lists (λ x c. sound x (later_element e x lists c)))

ids_without : (lists : Lists) → ids_of lists ≡ ids_of (without lists)
ids_without [] = refl
ids_without (e ∷ lists) = ap (λ (l : List ℕ). e.0 ∷ l) (ids_without lists)

empty_without : (lists : Lists) (x : ℕ × List DueSummary) → Contains (without lists) x → x.1 ≡ []
empty_without lists x c = let (e, has, is) = mapped_from (λ (e : ℕ × List DueSummary). let p : ℕ × List DueSummary = (e.0, []) in p) lists x c in ap (λ (p : ℕ × List DueSummary). p.1) (sym is)

one_area : (id : ℕ) (list : List DueSummary) → map (summary_due id) list ≡ map (due_change id) (metrics_of list)
one_area id [] = refl
one_area id (x ∷ xs) = ap (λ (l : List Change). summary_due id x ∷ l) (one_area id xs)

all_areas : (lists : Lists) → flat_map area_due lists ≡ flat_map area_changes (all_metrics lists)
all_areas [] = refl
all_areas (e ∷ lists) = λ i. one_area e.0 e.1 i ++ all_areas lists i

sets_leave : (id : ℕ) (es : List (Prefix × Item)) (m : DueMetrics) → metrics_from id m (map item_set es) ≡ m
sets_leave id [] m = refl
sets_leave id (e ∷ es) m = sets_leave id es m

pub give_all : (c : CoreValue) → AreDistinct (ids_of c.summaries) → AreSound c.summaries → Give (all_of c) c
give_all c distinct sound =
    let sets : List Change = map item_set (entries c.table.items) in
    let is : all_of c ≡ sets ++ flat_map area_changes (all_metrics c.summaries) = ap (λ (l : List Change). sets ++ l) (all_areas c.summaries) in
    record {
      items = ap (items_from empty) is ∙ items_all c.table.items (all_metrics c.summaries);
      due = λ g has.
          let due : List Change = flat_map area_changes (all_metrics c.summaries) in
          let all : metrics_from g.0 empty (all_of c) ≡ metrics_from g.0 empty due =
          ap (metrics_from g.0 empty) is ∙ metrics_both g.0 empty sets due ∙ ap (λ (m : DueMetrics). metrics_from g.0 m due) (sets_leave g.0 (entries c.table.items) empty) in
          subst (AreMetricsOf g.1) (sym all)
          (due_follow g.0 (all_metrics c.summaries) (without c.summaries) c.summaries (all_from_nothing c.summaries sound) (ids_without c.summaries)
          (subst AreDistinct (ids_without c.summaries) distinct) sound empty
          (λ e there same d. subst (λ (l : List DueSummary). IsMetricIn l d (get (empty {X = ℕ} {R = dest_cmp}) d)) (sym (empty_without c.summaries e there)) (subst (λ (o : Option ℕ). IsMetricIn [] d o) (sym (get-empty dest_cmp d)) (nothing_there d)))
          g has refl);
    }
