-- The areas are planned one by one, and what comes of it where the plans are carried out.
--   planned_more: one more area has its plan
--   all_fit: the plans may be carried out
--   lists_after: the lists belong to the inputs then
--   changes_after: the plans change just what differs
use Rattle.std.proofs.Common.{◌≡◌, ℕ, suc, add-zero, ◌+◌, ◌<◌, ◌≤◌, List, [], ◌∷◌, ◌++◌, length, map, get_or, set, take, drop, Option, refl, sym, ap, subst, ◌∙◌, inl, inr, arith}
use Rattle.std.specs.Prelude.{◌↔◌}
use Rattle.std.specs.List.{Contains}
use Rattle.std.specs.Map.{keys_of}
use Rattle.std.proofs.Math.Seq.{map-set_same}
use Rattle.std.proofs.lemmas.List.{take_all, take_more, take_more_set, drop-set-lt, drop-drop, get_or-drop, map-append}
use Rattle.std.proofs.lemmas.List.Elements.{All-contains}
use Rattle.ospf_types.specs.declared.config.AreaConfig.{AreaConfig}
use Rattle.ospf_types.specs.declared.key.Dest.{Dest}
use Rattle.ospf_types.proofs.Elements.{first_element, later_element, mapped_element}
use Rattle.ospf_types.proofs.Orders.{dest_total, dest_exact}
use Rattle.route_choice.proofs.KeyedMaps.{listed_or_not}
use Rattle.summary_lists.specs.declared.due.DueSummary.{DueSummary}
use Rattle.summary_lists.specs.declared.plan.AreaPlan.{AreaPlan}
use Rattle.summaries.specs.Inputs.{SummaryInputsValue}
use Rattle.summaries.specs.Giving.{IsDueIn}
use Rattle.summary_lists.specs.Lists.{AreChangesBetween, AreaSummariesValue, IsChangedBy, Metrics, due_for, kind_of}
use Rattle.summaries.specs.DueSummaries.{AreDueChanges, IsListOf, AreListsOf, listed}
use Rattle.summary_lists.specs.Plans.{IsListChanged}
use Rattle.summaries.specs.Carrying.{AllFit, AllChanged, changes_of}
use Rattle.summaries.specs.Planning.{SummaryTurn, IsSummaryTurn, AreSummaryTurns, IsPlannedIn, ArePlanned, ArePlannedTo}
use Rattle.summaries.proofs.Differing.{changes_between, metric_of}

-- ---- one more area has its plan

module _ (v : SummaryInputsValue) (dests : List Dest) where
  turns_more : (turns : List SummaryTurn) (x : SummaryTurn) → AreSummaryTurns v dests turns → IsSummaryTurn v dests x → AreSummaryTurns v dests (turns ++ x ∷ [])
  turns_more [] x are is = (is, tt)
  turns_more (y ∷ turns) x are is = (are.0, turns_more turns x are.1 is)

  pub none_planned : (areas : List AreaConfig) (old : List AreaSummariesValue) → ArePlannedTo v dests areas old old [] 0
  none_planned areas old = record {
    first = record { turns = []; areas_are = refl; old_are = refl; new_are = refl; plans_are = refl; each = tt };
    rest = refl;
    same = refl;
  }

mapped_more : {X : Type 0} (f : SummaryTurn → X) (turns : List SummaryTurn) (x : SummaryTurn) (xs ys : List X) → map f turns ≡ xs → ys ≡ xs ++ f x ∷ [] → map f (turns ++ x ∷ []) ≡ ys
mapped_more f turns x xs ys are is = map-append f turns (x ∷ []) ∙ ap (λ zs. zs ++ f x ∷ []) are ∙ sym is

-- a list in its place, with nothing else due in it
pub listed_set : (lists : List AreaSummariesValue) (i : ℕ) (x old : AreaSummariesValue) → old ≡ get_or lists i old → x.area ≡ old.area → x.list ≡ old.list → listed (set lists i x) ≡ listed lists
listed_set lists i x old at area list =
    let f : AreaSummariesValue → ℕ × List DueSummary = λ a. (a.area, a.list) in
    let same : f x ≡ f old = λ k. (area k, list k) in
    map-set_same f lists i x old (same ∙ ap f at)

module _ (v : SummaryInputsValue) (dests : List Dest) (areas : List AreaConfig) (old now : List AreaSummariesValue) (plans : List AreaPlan) (i : ℕ) where
  -- the list at the place is unchanged
  pub still_there : (x : AreaSummariesValue) → i < length now → x ≡ get_or now i x → ArePlannedTo v dests areas old now plans i → get_or old i x ≡ x
  still_there x lt at to =
      ap (λ (k : ℕ). get_or old k x) (sym (add-zero i)) ∙ sym (get_or-drop i old 0 x) ∙ ap (λ (ys : List AreaSummariesValue). get_or ys 0 x) (sym to.rest)
      ∙ get_or-drop i now 0 x ∙ ap (λ (k : ℕ). get_or now k x) (add-zero i) ∙ sym at

  pub planned_more : (a : AreaConfig) (was new : AreaSummariesValue) (plan : AreaPlan) → i < length areas → length now ≡ length areas → length old ≡ length areas
      → a ≡ get_or areas i a → was ≡ get_or now i was → new.area ≡ was.area → new.list ≡ was.list → IsPlannedIn v dests a was new plan
      → ArePlannedTo v dests areas old now plans i → ArePlannedTo v dests areas old (set now i new) (plans ++ plan ∷ []) (i + 1)
  planned_more a was new plan lt now_long old_long area_at was_at same_area same_list is to =
      let first = to.first in
      let x : SummaryTurn = record { area = a; old = was; new = new; plan = plan } in
      let lt_now : i < length now = omega (arith, lt, now_long) in
      let lt_old : i < length old = omega (arith, lt, old_long) in
      let here = still_there was lt_now was_at to in
      record {
        first = record {
          turns = first.turns ++ x ∷ [];
          areas_are = mapped_more (λ (y : SummaryTurn). y.area) first.turns x (take i areas) (take (i + 1) areas) first.areas_are (take_more areas i a lt ∙ ap (λ (b : AreaConfig). take i areas ++ b ∷ []) (sym area_at));
          old_are = mapped_more (λ (y : SummaryTurn). y.old) first.turns x (take i old) (take (i + 1) old) first.old_are (take_more old i was lt_old ∙ ap (λ (w : AreaSummariesValue). take i old ++ w ∷ []) here);
          new_are = mapped_more (λ (y : SummaryTurn). y.new) first.turns x (take i now) (take (i + 1) (set now i new)) first.new_are (take_more_set now i new lt_now);
          plans_are = mapped_more (λ (y : SummaryTurn). y.plan) first.turns x plans (plans ++ plan ∷ []) first.plans_are refl;
          each = turns_more v dests first.turns x first.each is;
        };
        rest = drop-set-lt (i + 1) now i new (omega arith) ∙ sym (drop-drop 1 i now) ∙ ap (drop 1) to.rest ∙ drop-drop 1 i old;
        same = listed_set now i new was was_at same_area same_list ∙ to.same;
      }

  pub all_planned : length areas ≤ i → length old ≡ length areas → length now ≡ length areas → ArePlannedTo v dests areas old now plans i → ArePlanned v dests areas old now plans
  all_planned le old_long now_long to =
      subst (λ (list : List AreaConfig). ArePlanned v dests list old now plans) (take_all i areas le)
      (subst (λ (list : List AreaSummariesValue). ArePlanned v dests (take i areas) list now plans) (take_all i old (omega (arith, le, old_long)))
      (subst (λ (list : List AreaSummariesValue). ArePlanned v dests (take i areas) (take i old) list plans) (take_all i now (omega (arith, le, now_long))) to.first))

-- ---- what a plan makes of a list

keys_have : (metrics : Metrics) (d : Dest) (metric : Option ℕ) → Contains metrics (d, metric) → Contains (keys_of metrics) d
keys_have metrics d metric c = mapped_element (λ (e : Dest × Option ℕ). e.0) metrics (d, metric) c

module _ (v : SummaryInputsValue) (dests : List Dest) (x : SummaryTurn) (after : AreaSummariesValue) (is : IsSummaryTurn v dests x) (carried : IsListChanged x.plan.metrics.items x.new after) where
  abbrev metrics : Metrics
  metrics = x.plan.metrics.items

  changed : IsChangedBy metrics x.old.list after.list
  changed = subst (λ (list : List DueSummary). IsChangedBy metrics list after.list) is.same_list carried.list

  -- what it changes is what differs
  differs : AreChangesBetween metrics x.old.list after.list
  differs = changes_between metrics x.old.list after.list changed (λ d metric c had.
      (is.changes.named d (keys_have metrics d metric c)).1 (λ m.
      let due = is.changes.here d metric c m in
      (λ h. (had m).0 (due.1 h), λ h. due.0 ((had m).1 h)))) is.changes.in_order

  -- it has a named destination at the metric that is due
  told_named : (d : Dest) → Contains (keys_of metrics) d → (m : ℕ) → IsDueIn v x.area d m ↔ Contains after.list (due_for d m)
  told_named d c m =
      let (metric, there) = metric_of metrics d c in
      let due = is.changes.here d metric there m in
      let told = changed.here d metric there m in
      (λ h. told.0 (due.1 h), λ h. due.0 (told.1 h))

  module _ (before : SummaryInputsValue) (was : IsListOf before x.area x.old) (alike : (d : Dest) → (Contains dests d → ⊥) → (m : ℕ) → IsDueIn before x.area d m ↔ IsDueIn v x.area d m) where
    -- and of each destination
    told : (d : Dest) (m : ℕ) → IsDueIn v x.area d m ↔ Contains after.list (due_for d m)
    told d m = elim (listed_or_not dest_total dest_exact d (keys_of metrics)) [
      | inl c ↦ told_named d c m
      | inr absent ↦
          let stays = changed.others (due_for d m) absent in
          elim (listed_or_not dest_total dest_exact d dests) [
            | inl c ↦
                let same = is.changes.others d c absent m in
                (λ h. stays.1 (same.0 h), λ h. same.1 (stays.0 h))
            | inr untouched ↦
                let same = alike d untouched m in
                let old = was.exact (due_for d m) in
                (λ h. stays.1 (old.1 (same.1 h, refl)), λ h. same.0 (old.0 (stays.0 h)).0)
          ]
    ]

    list_after : IsListOf v x.area after
    list_after =
        let made : (due : DueSummary) → due.kind ≡ kind_of due.dest → due ≡ due_for due.dest due.metric = λ due kind i. record { kind = kind i; dest = due.dest; metric = due.metric } in
        record {
          area = carried.area ∙ is.same_area ∙ was.area;
          in_order = carried.in_order;
          exact = λ due. (
            λ c. let kind : due.kind ≡ kind_of due.dest = All-contains (λ due. due.kind ≡ kind_of due.dest) after.list due carried.of_kind c in
                ((told due.dest due.metric).1 (subst (Contains after.list) (made due kind) c), kind),
            λ h. subst (Contains after.list) (sym (made due h.1)) ((told due.dest due.metric).0 h.0),
          );
        }

-- ---- what the plans make of the lists

module _ (v : SummaryInputsValue) (dests : List Dest) where
  pub all_fit : (turns : List SummaryTurn) → AreSummaryTurns v dests turns → AllFit (map (λ (x : SummaryTurn). x.plan) turns) (map (λ (x : SummaryTurn). x.new) turns)
  all_fit [] are = tt
  all_fit (x ∷ turns) are = (are.0.fits, all_fit turns are.1)

  pub lists_after : (before : SummaryInputsValue) (turns : List SummaryTurn) (after : List AreaSummariesValue) → AreSummaryTurns v dests turns
      → ((a : AreaConfig) (d : Dest) → Contains (map (λ (x : SummaryTurn). x.area) turns) a → (Contains dests d → ⊥) → (m : ℕ) → IsDueIn before a d m ↔ IsDueIn v a d m)
      → AreListsOf before (map (λ (x : SummaryTurn). x.area) turns) (map (λ (x : SummaryTurn). x.old) turns)
      → AllChanged (changes_of (map (λ (x : SummaryTurn). x.plan) turns)) (map (λ (x : SummaryTurn). x.new) turns) after
      → AreListsOf v (map (λ (x : SummaryTurn). x.area) turns) after
  lists_after before [] [] are alike was lead = tt
  lists_after before [] (w ∷ after) are alike was lead = let wrong : w ∷ after ≡ [] = lead in absurd cc
  lists_after before (x ∷ turns) [] are alike was lead = absurd lead
  lists_after before (x ∷ turns) (w ∷ after) are alike was lead =
      let areas = map (λ (x : SummaryTurn). x.area) turns in (
        list_after v dests x w are.0 lead.0 before was.0 (λ d. alike x.area d (first_element x.area areas)),
        lists_after before turns after are.1 (λ a d c. alike a d (later_element x.area a areas c)) was.1 lead.1,
      )

  pub changes_after : (turns : List SummaryTurn) (after : List AreaSummariesValue) → AreSummaryTurns v dests turns
      → AllChanged (changes_of (map (λ (x : SummaryTurn). x.plan) turns)) (map (λ (x : SummaryTurn). x.new) turns) after
      → AreDueChanges (changes_of (map (λ (x : SummaryTurn). x.plan) turns)) (listed (map (λ (x : SummaryTurn). x.old) turns)) (listed after)
  changes_after [] after are lead = ap listed lead
  changes_after (x ∷ turns) [] are lead = absurd lead
  changes_after (x ∷ turns) (w ∷ after) are lead = ((are.0.of_area, differs v dests x w are.0 lead.0), changes_after turns after are.1 lead.1)

-- ---- what is planned

module _ (v : SummaryInputsValue) (dests : List Dest) (areas : List AreaConfig) (old new : List AreaSummariesValue) (plans : List AreaPlan) (planned : ArePlanned v dests areas old new plans) where
  -- the plans may be carried out
  pub planned_fit : AllFit plans new
  planned_fit = subst (λ (ps : List AreaPlan). AllFit ps new) planned.plans_are (subst (AllFit (map (λ (x : SummaryTurn). x.plan) planned.turns)) planned.new_are (all_fit v dests planned.turns planned.each))

  module _ (after : List AreaSummariesValue) (leads : AllChanged (changes_of plans) new after) where
    led : AllChanged (changes_of (map (λ (x : SummaryTurn). x.plan) planned.turns)) (map (λ (x : SummaryTurn). x.new) planned.turns) after
    led = subst (λ (lists : List AreaSummariesValue). AllChanged (changes_of (map (λ (x : SummaryTurn). x.plan) planned.turns)) lists after) (sym planned.new_are) (subst (λ (ps : List AreaPlan). AllChanged (changes_of ps) new after) (sym planned.plans_are) leads)

    -- the plans change just what differs
    pub planned_changes : AreDueChanges (changes_of plans) (listed old) (listed after)
    planned_changes =
        subst (λ (ps : List AreaPlan). AreDueChanges (changes_of ps) (listed old) (listed after)) planned.plans_are
        (subst (λ (lists : List AreaSummariesValue). AreDueChanges (changes_of (map (λ (x : SummaryTurn). x.plan) planned.turns)) (listed lists) (listed after)) planned.old_are
        (changes_after v dests planned.turns after planned.each led))

    -- the lists belong to the inputs then
    pub planned_lists : (was : SummaryInputsValue) → ((a : AreaConfig) (d : Dest) → Contains areas a → (Contains dests d → ⊥) → (m : ℕ) → IsDueIn was a d m ↔ IsDueIn v a d m) → AreListsOf was areas old → AreListsOf v areas after
    planned_lists was alike lists =
        subst (λ (bs : List AreaConfig). AreListsOf v bs after) planned.areas_are
        (lists_after v dests was planned.turns after planned.each (λ a d c. alike a d (subst (λ (bs : List AreaConfig). Contains bs a) planned.areas_are c))
        (subst (λ (bs : List AreaConfig). AreListsOf was bs (map (λ (x : SummaryTurn). x.old) planned.turns)) (sym planned.areas_are) (subst (AreListsOf was areas) (sym planned.old_are) lists)) led)

-- there is a list for each area
pub lists_long : (v : SummaryInputsValue) (areas : List AreaConfig) (lists : List AreaSummariesValue) → AreListsOf v areas lists → length lists ≡ length areas
lists_long v [] [] are = refl
lists_long v [] (w ∷ lists) are = absurd are
lists_long v (a ∷ areas) [] are = absurd are
lists_long v (a ∷ areas) (w ∷ lists) are = ap (λ (n : ℕ). suc n) (lists_long v areas lists are.1)
