-- The summaries due in an area, by the changes one after the other.
--   metrics_both: one list after the other
--   networks_leave: the table is none of it
--   due_follow: the differences of the lists lead to the next ones
use Rattle.std.proofs.Common.{◌≡◌, ◌≢◌, ◌==◌, ℕ, true, false, cond, List, [], ◌∷◌, ◌++◌, map, Option, Some, None, refl, sym, ap, subst, ◌∙◌, inl, inr}
use Rattle.std.specs.declared.cmp.Ordering.TheVariants.{Less}
use Rattle.std.specs.FinMap.{get, insert, remove}
use Rattle.std.specs.List.{All, Contains, flat_map}
use Rattle.std.specs.List.Sorted.{IsStrictlySortedBy}
use Rattle.std.specs.Map.{keys_of}
use Rattle.std.proofs.lemmas.Bool.Decides.{eqb_tells}
use Rattle.std.proofs.lemmas.List.Elements.{All-contains}
use Rattle.ospf_types.specs.declared.key.Dest.{Dest}
use Rattle.ospf_types.specs.declared.prefix.Prefix.{Prefix}
use Rattle.ospf_types.specs.Keys.{dest_cmp}
use Rattle.ospf_types.proofs.Elements.{no_element, first_element, later_element, first_or_later, mapped_element}
use Rattle.ospf_types.proofs.Orders.{dest_total, dest_exact}
use Rattle.route_choice.proofs.KeyedMaps.{one_or_other, set_here, set_elsewhere, gone_here, gone_elsewhere}
use Rattle.route_table.specs.declared.table.Item.{Item}
use Rattle.summary_lists.specs.declared.due.DueSummary.{DueSummary}
use Rattle.summary_lists.specs.Lists.{AreInOrder, AreChangesBetween, IsMetricIn, Metrics, due_for, kind_of}
use Rattle.summary_lists.proofs.Parts.{from_each_dest, not_less_itself}
use Rattle.change_log.specs.Lines.{Change}
use Rattle.event_core.specs.DueSummaries.{AreDueChanges}
use Rattle.change_log.specs.Changes.{AreMetricsOf, DueMetrics, Items, change_to, network_change, due_change, area_changes, metrics_after, metrics_from}
use Rattle.change_log.proofs.Deciding.{same_metrics}

pub metrics_both : (id : ℕ) (m : DueMetrics) (xs ys : List Change) → metrics_from id m (xs ++ ys) ≡ metrics_from id (metrics_from id m xs) ys
metrics_both id m [] ys = refl
metrics_both id m (x ∷ xs) ys = metrics_both id (metrics_after id m x) xs ys

-- ---- the table is none of it

network_leaves : (id : ℕ) (m : DueMetrics) (p : Prefix) (o : Option Item) → metrics_after id m (change_to p o) ≡ m
network_leaves id m p (Some i) = refl
network_leaves id m p None = refl

pub networks_leave : (id : ℕ) (items : Items) (ns : List Prefix) (m : DueMetrics) → metrics_from id m (map (network_change items) ns) ≡ m
networks_leave id items [] m = refl
networks_leave id items (n ∷ ns) m = ap (λ (x : DueMetrics). metrics_from id x (map (network_change items) ns)) (network_leaves id m n _) ∙ networks_leave id items ns m

-- ---- another area is none of it

not_equal : (a b : ℕ) → a ≢ b → (a == b) ≡ false
not_equal a b other = elim (eqb_tells a b) [ inl same ↦ absurd (other same.1) | inr differs ↦ differs.0 ]

equal : (a : ℕ) → (a == a) ≡ true
equal a = elim (eqb_tells a a) [ inl same ↦ same.0 | inr differs ↦ absurd (differs.1 refl) ]

other_leaves : (id area : ℕ) → (area == id) ≡ false → (m : DueMetrics) (x : Dest × Option ℕ) → metrics_after id m (due_change area x) ≡ m
other_leaves id area is m (d, Some metric) = ap (λ b. cond b (insert m d metric) m) is
other_leaves id area is m (d, None) = ap (λ b. cond b (remove m d) m) is

others_leave : (id area : ℕ) → (area == id) ≡ false → (ms : Metrics) (m : DueMetrics) → metrics_from id m (map (due_change area) ms) ≡ m
others_leave id area is [] m = refl
others_leave id area is (x ∷ ms) m = ap (λ (n : DueMetrics). metrics_from id n (map (due_change area) ms)) (other_leaves id area is m x) ∙ others_leave id area is ms m

-- ---- the metrics of one list

set_to : (id : ℕ) (m : DueMetrics) (d : Dest) (o : Option ℕ) → get (metrics_after id m (due_change id (d, o))) d ≡ o
set_to id m d (Some k) = ap (λ b. get (cond b (insert m d k) m) d) (equal id) ∙ set_here dest_total m d k
set_to id m d None = ap (λ b. get (cond b (remove m d) m) d) (equal id) ∙ gone_here dest_total m d

set_else : (id : ℕ) (m : DueMetrics) (d q : Dest) (o : Option ℕ) → q ≢ d → get (metrics_after id m (due_change id (d, o))) q ≡ get m q
set_else id m d q (Some k) other = ap (λ b. get (cond b (insert m d k) m) q) (equal id) ∙ set_elsewhere dest_total dest_exact m d q k other
set_else id m d q None other = ap (λ b. get (cond b (remove m d) m) q) (equal id) ∙ gone_elsewhere dest_total dest_exact m d q other

module _ (id : ℕ) (new : List DueSummary) where
  reaches : (ms : Metrics) → ((d : Dest) (o : Option ℕ) → Contains ms (d, o) → IsMetricIn new d o) → (m : DueMetrics) (q : Dest) → ((Contains (keys_of ms) q → ⊥) → IsMetricIn new q (get m q))
      → IsMetricIn new q (get (metrics_from id m (map (due_change id) ms)) q)
  reaches [] told m q h = h (λ c. no_element q c)
  reaches (x ∷ ms) told m q h =
      let after : DueMetrics = metrics_after id m (due_change id x) in
      let here : IsMetricIn new x.0 (get after x.0) = subst (λ (o : Option ℕ). IsMetricIn new x.0 o) (sym (set_to id m x.0 x.1)) (told x.0 x.1 (first_element x ms)) in
      reaches ms (λ d o c. told d o (later_element x (d, o) ms c)) after q (λ absent. elim (one_or_other dest_total dest_exact x.0 q) [
        | inl e ↦ subst (λ (d : Dest). IsMetricIn new d (get after d)) (sym e) here
        | inr other ↦ subst (λ (o : Option ℕ). IsMetricIn new q o) (sym (set_else id m x.0 q x.1 other)) (h (λ c. elim (first_or_later x.0 q (keys_of ms) c) [ inl e ↦ other e | inr later ↦ absent later ]))
      ])

-- in order, and each of the LS type of its destination
pub record IsSound (list : List DueSummary) : Type 0 where
  pub in_order : AreInOrder list
  pub kinds : (due : DueSummary) → Contains list due → due.kind ≡ kind_of due.dest

order_behind : (x : DueSummary) (xs : List DueSummary) → AreInOrder (x ∷ xs) → All (λ (y : DueSummary). dest_cmp x.dest y.dest ≡ Less) xs
unfolding IsStrictlySortedBy
order_behind x xs h = from_each_dest (λ e. dest_cmp x.dest e ≡ Less) xs h.0

in_order_behind : (x : DueSummary) (xs : List DueSummary) → AreInOrder (x ∷ xs) → AreInOrder xs
unfolding IsStrictlySortedBy
in_order_behind x xs h = h.1

-- such a list has each destination at one metric, or not at all
pub metric_in : (list : List DueSummary) → IsSound list → (d : Dest) → (o : Option ℕ) × IsMetricIn list d o
metric_in [] sound d = (None, λ m. (λ e. absurd cc, λ c. absurd (no_element (due_for d m) c)))
metric_in (x ∷ xs) sound d = elim (one_or_other dest_total dest_exact x.dest d) [
  | inl e ↦
      let is : x ≡ due_for d x.metric = λ i. record { kind = (sound.kinds x (first_element x xs) ∙ ap kind_of (sym e)) i; dest = sym e i; metric = x.metric } in (
        Some x.metric,
        λ m. (
          λ same. subst (λ (k : ℕ). Contains (x ∷ xs) (due_for d k)) (some_metric same) (subst (λ (y : DueSummary). Contains (x ∷ xs) y) is (first_element x xs)),
          λ c. elim (first_or_later x (due_for d m) xs c) [
            | inl same ↦ ap (λ (y : DueSummary). let o : Option ℕ = Some y.metric in o) (sym same)
            | inr later ↦
                let behind = All-contains (λ (y : DueSummary). dest_cmp x.dest y.dest ≡ Less) xs (due_for d m) (order_behind x xs sound.in_order) later in
                absurd (not_less_itself x.dest (subst (λ (k : Dest). dest_cmp x.dest k ≡ Less) e behind))
          ],
        ),
      )
  | inr other ↦
      let rest = metric_in xs (record { in_order = in_order_behind x xs sound.in_order; kinds = λ due c. sound.kinds due (later_element x due xs c) }) d in (
        rest.0,
        λ m. (
          λ e. later_element x (due_for d m) xs ((rest.1 m).0 e),
          λ c. elim (first_or_later x (due_for d m) xs c) [ inl e ↦ absurd (other (ap (λ (y : DueSummary). y.dest) e)) | inr later ↦ (rest.1 m).1 later ],
        ),
      )
]
  where
    some_metric : {k m : ℕ} → Some k ≡ Some m → k ≡ m
    some_metric e = cc

one_metric : (list : List DueSummary) (d : Dest) (a b : Option ℕ) → IsMetricIn list d a → IsMetricIn list d b → a ≡ b
one_metric list d None None h k = refl
one_metric list d None (Some y) h k = (h y).1 ((k y).0 refl)
one_metric list d (Some x) b h k = sym ((k x).1 ((h x).0 refl))

area_follows : (id : ℕ) (ms : Metrics) (old new : List DueSummary) → AreChangesBetween ms old new → IsSound new → (m : DueMetrics) → AreMetricsOf old m → AreMetricsOf new (metrics_from id m (map (due_change id) ms))
area_follows id ms old new changes sound m given q = reaches id new ms (λ d o c. ((changes.exact d o).0 c).0) m q (λ absent.
    let here = metric_in new sound q in
    subst (λ (o : Option ℕ). IsMetricIn new q o)
    (same_metrics here.0 (get m q) (λ other. absent (mapped_element (λ (e : Dest × Option ℕ). e.0) ms (q, here.0) ((changes.exact q here.0).1 (here.1, λ had. other (one_metric old q here.0 (get m q) had (given q)))))))
    here.1)

-- ---- the lists of the areas

abbrev pub Lists : Type 0
Lists = List (ℕ × List DueSummary)

abbrev pub ids_of : Lists → List ℕ
ids_of lists = map (λ (e : ℕ × List DueSummary). e.0) lists

-- no id is there twice
abbrev pub AreDistinct : List ℕ → Type 0
AreDistinct [] = Unit {0}
AreDistinct (id ∷ ids) = (Contains ids id → ⊥) × AreDistinct ids

abbrev pub AreSound : Lists → Type 0
AreSound lists = (e : ℕ × List DueSummary) → Contains lists e → IsSound e.1

absent_leaves : (id : ℕ) (due : List (ℕ × Metrics)) (olds news : Lists) → AreDueChanges due olds news → (Contains (ids_of olds) id → ⊥) → (m : DueMetrics) → metrics_from id m (flat_map area_changes due) ≡ m
absent_leaves id [] olds news h absent m = refl
absent_leaves id (c ∷ due) [] news h absent m = absurd h
absent_leaves id (c ∷ due) (e ∷ olds) [] h absent m = absurd h
absent_leaves id (c ∷ due) (e ∷ olds) (f ∷ news) h absent m =
    let other : c.0 ≢ id = λ same. absent (subst (λ (k : ℕ). Contains (ids_of (e ∷ olds)) k) (sym h.0.0 ∙ same) (first_element e.0 (ids_of olds))) in
    metrics_both id m (area_changes c) (flat_map area_changes due)
    ∙ ap (λ (n : DueMetrics). metrics_from id n (flat_map area_changes due)) (others_leave id c.0 (not_equal c.0 id other) c.1 m)
    ∙ absent_leaves id due olds news h.1 (λ there. absent (later_element e.0 id (ids_of olds) there)) m

abbrev first_id : List ℕ → ℕ
first_id [] = 0
first_id (id ∷ ids) = id

abbrev later_ids : List ℕ → List ℕ
later_ids [] = []
later_ids (id ∷ ids) = ids

pub due_follow : (id : ℕ) (due : List (ℕ × Metrics)) (olds news : Lists) → AreDueChanges due olds news → ids_of news ≡ ids_of olds → AreDistinct (ids_of olds) → AreSound news
    → (m : DueMetrics) → ((e : ℕ × List DueSummary) → Contains olds e → e.0 ≡ id → AreMetricsOf e.1 m)
    → (g : ℕ × List DueSummary) → Contains news g → g.0 ≡ id → AreMetricsOf g.1 (metrics_from id m (flat_map area_changes due))
due_follow id [] olds news same ids distinct sound m given g has is = given g (subst (λ (lists : Lists). Contains lists g) same has) is
due_follow id (c ∷ due) [] news h ids distinct sound m given g has is = absurd h
due_follow id (c ∷ due) (e ∷ olds) [] h ids distinct sound m given g has is = absurd h
due_follow id (c ∷ due) (e ∷ olds) (f ∷ news) h ids distinct sound m given g has is =
    let first : f.0 ≡ e.0 = ap first_id ids in
    let rest : ids_of news ≡ ids_of olds = ap later_ids ids in
    let more : List Change = flat_map area_changes due in
    elim (first_or_later f g news has) [
      | inl here ↦
          let e_is : e.0 ≡ id = sym first ∙ ap (λ (x : ℕ × List DueSummary). x.0) (sym here) ∙ is in
          let c_is : c.0 ≡ id = h.0.0 ∙ e_is in
          let changed : AreMetricsOf f.1 (metrics_from id m (map (due_change id) c.1)) = area_follows id c.1 e.1 f.1 h.0.1 (sound f (first_element f news)) m (given e (first_element e olds) e_is) in
          let all : metrics_from id m (area_changes c ++ more) ≡ metrics_from id m (map (due_change id) c.1) =
          metrics_both id m (area_changes c) more ∙ absent_leaves id due olds news h.1 (λ there. distinct.0 (subst (λ (k : ℕ). Contains (ids_of olds) k) (sym e_is) there)) (metrics_from id m (area_changes c))
          ∙ ap (λ (k : ℕ). metrics_from id m (map (due_change k) c.1)) c_is in
          subst (λ (x : ℕ × List DueSummary). AreMetricsOf x.1 (metrics_from id m (area_changes c ++ more))) (sym here) (subst (AreMetricsOf f.1) (sym all) changed)
      | inr later ↦
          let there : Contains (ids_of olds) id = subst (λ (l : List ℕ). Contains l id) rest (subst (λ (k : ℕ). Contains (ids_of news) k) is (mapped_element (λ (x : ℕ × List DueSummary). x.0) news g later)) in
          let other : c.0 ≢ id = λ same. distinct.0 (subst (λ (k : ℕ). Contains (ids_of olds) k) (sym same ∙ h.0.0) there) in
          let all : metrics_from id m (area_changes c ++ more) ≡ metrics_from id m more =
          metrics_both id m (area_changes c) more ∙ ap (λ (n : DueMetrics). metrics_from id n more) (others_leave id c.0 (not_equal c.0 id other) c.1 m) in
          subst (AreMetricsOf g.1) (sym all)
          (due_follow id due olds news h.1 rest distinct.1 (λ x there. sound x (later_element f x news there)) m (λ x there. given x (later_element e x olds there)) g later is)
    ]
