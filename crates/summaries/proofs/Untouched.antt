-- A destination with another due metric than before is affected.
--   alike_touched: where the same areas are active as before
--   alike_few: where fewer than two are, and nothing is due
--   alike_all: where all that is due and all that was due is affected
--   lists_rest: where nothing is due otherwise
--   lists_now: the lists of before belong to the areas now, of which the ranges may differ
use Rattle.std.proofs.Common.{◌≡◌, ◌<◌, ℕ, List, [], ◌∷◌, ◌++◌, Ordering, arith, length, refl, sym, ap, subst, ◌∙◌, inl, inr}
use Rattle.std.specs.Prelude.{◌↔◌}
use Rattle.std.specs.List.{Contains, flat_map}
use Rattle.std.specs.List.Sorted.{IsStrictlySortedBy}
use Rattle.std.proofs.lemmas.List.Elements.{Contains-append_left, Contains-append_right}
use Rattle.ospf_types.specs.declared.config.AreaConfig.{AreaConfig}
use Rattle.ospf_types.specs.declared.key.Dest.{Dest}
use Rattle.ospf_types.specs.declared.key.Dest.TheVariants.{Net, Router}
use Rattle.ospf_types.specs.RangeChanges.{with_others, areas_without_ranges}
use Rattle.ospf_types.proofs.Elements.{no_element, first_element, first_or_later, later_element, mapped_element}
use Rattle.summary_lists.specs.declared.due.DueSummary.{DueSummary}
use Rattle.summaries.specs.Inputs.{SummaryInputsValue}
use Rattle.summaries.specs.Giving.{IsDueIn, IsServed}
use Rattle.summary_lists.specs.Lists.{AreaSummariesValue, due_for}
use Rattle.summaries.specs.DueSummaries.{AreSummariesOf, AreListsOf, IsListOf, DueSummariesValue, dests_of}
use Rattle.summaries.specs.Changes.{AreDueAlikeBut, InputsDifferAmong}
use Rattle.summaries.specs.Touched.{IsTouchedBy}
use Rattle.summaries.proofs.Frame.{due_stays}

-- where the same areas are active as before
pub alike_touched : (dests affected : List Dest) (before now : SummaryInputsValue) (w : DueSummariesValue) → ((d : Dest) → IsTouchedBy now.areas dests d → Contains affected d) → w.active ≡ now.active
    → AreSummariesOf before w → InputsDifferAmong dests before now → AreDueAlikeBut affected before now
alike_touched dests affected before now w enough active were differ a d there absent m =
    due_stays dests before now differ (sym active ∙ were.active) d (λ t. absent (enough d t)) a m

-- one active area has no other
no_other : (active : List ℕ) (area : ℕ) → length active < 2 → IsServed active area → ⊥
no_other [] area few served = no_element area served.here
no_other (x ∷ []) area few served = served.other.2 (only x served.other.0 served.other.1 ∙ sym (only x area served.here))
  where
    only : (x n : ℕ) → Contains (x ∷ []) n → n ≡ x
    only x n there = elim (first_or_later x n [] there) [
      | inl same ↦ same
      | inr later ↦ absurd (no_element n later)
    ]
no_other (x ∷ y ∷ active) area few served = omega (arith, few)

-- where fewer than two areas are active, and the same ones as before
pub alike_few : (affected : List Dest) (before now : SummaryInputsValue) (w : DueSummariesValue) → length now.active < 2 → w.active ≡ now.active → AreSummariesOf before w → AreDueAlikeBut affected before now
alike_few affected before now w few active were a d there absent m = (
  λ h. absurd (no_other before.active a.id (subst (λ (xs : List ℕ). length xs < 2) (sym active ∙ were.active) few) h.served),
  λ h. absurd (no_other now.active a.id few h.served),
)

pub none_in_order : {A : Type 0} (cmp : A → A → Ordering) → IsStrictlySortedBy cmp []
unfolding IsStrictlySortedBy
none_in_order cmp = tt

-- where nothing is due otherwise, the lists belong to the inputs now
pub lists_rest : (before now : SummaryInputsValue) (areas : List AreaConfig) (lists : List AreaSummariesValue) → ((a : AreaConfig) (d : Dest) → Contains areas a → (m : ℕ) → IsDueIn before a d m ↔ IsDueIn now a d m)
    → AreListsOf before areas lists → AreListsOf now areas lists
lists_rest before now [] [] alike are = tt
lists_rest before now [] (w ∷ lists) alike are = absurd are
lists_rest before now (a ∷ areas) [] alike are = absurd are
lists_rest before now (a ∷ areas) (w ∷ lists) alike are =
    let same = λ (d : Dest) (m : ℕ). alike a d (first_element a areas) m in (
      record {
        area = are.0.area;
        in_order = are.0.in_order;
        exact = λ due. let was = are.0.exact due in (
          λ c. let h = was.0 c in ((same due.dest due.metric).0 h.0, h.1),
          λ h. was.1 ((same due.dest due.metric).1 h.0, h.1),
        );
      },
      lists_rest before now areas lists (λ b d c. alike b d (later_element a b areas c)) are.1,
    )

-- what was due in an area is in its list
listed_dest : (v : SummaryInputsValue) (areas : List AreaConfig) (lists : List AreaSummariesValue) → AreListsOf v areas lists → (a : AreaConfig) (d : Dest) (m : ℕ) → Contains areas a → IsDueIn v a d m → Contains (flat_map dests_of lists) d
listed_dest v [] lists are a d m there due = absurd (no_element a there)
listed_dest v (b ∷ areas) [] are a d m there due = absurd are
listed_dest v (b ∷ areas) (w ∷ lists) are a d m there due = elim (first_or_later b a areas there) [
  | inl same ↦
      let here = are.0.exact (due_for d m) in
      let in_list = here.1 (subst (λ (x : AreaConfig). IsDueIn v x d m) same due, refl) in
      Contains-append_left (dests_of w) (flat_map dests_of lists) d (mapped_element (λ (due : DueSummary). due.dest) w.list (due_for d m) in_list)
  | inr later ↦ Contains-append_right (dests_of w) (flat_map dests_of lists) d (listed_dest v areas lists are.1 a d m later due)
]

-- where all that is due and all that was due is among them
pub alike_all : (all pushed affected : List Dest) (before now : SummaryInputsValue) (w : DueSummariesValue) → ((a : AreaConfig) (d : Dest) (m : ℕ) → IsDueIn now a d m → Contains all d) → pushed ≡ all ++ flat_map dests_of w.areas
    → ((d : Dest) → Contains affected d ↔ Contains pushed d) → AreListsOf before now.areas w.areas → AreDueAlikeBut affected before now
alike_all all pushed affected before now w enough is same were a d there absent m =
    let own = flat_map dests_of w.areas in
    let among : Contains (all ++ own) d → Contains affected d = λ c. (same d).1 (subst (λ (ds : List Dest). Contains ds d) (sym is) c) in (
      λ h. absurd (absent (among (Contains-append_right all own d (listed_dest before now.areas w.areas were a d m there h)))),
      λ h. absurd (absent (among (Contains-append_left all own d (enough a d m h)))),
    )

-- ---- areas with other ranges

module _ (v : SummaryInputsValue) where
  bare_due : (a : AreaConfig) (d : Dest) (m : ℕ) → IsDueIn v a d m → IsDueIn v (with_others a []) d m
  bare_due a (Net p) m due = record { served = due.served; due = due.due }
  bare_due a (Router r) m due = record { served = due.served; due = due.due }

  due_bare : (a : AreaConfig) (d : Dest) (m : ℕ) → IsDueIn v (with_others a []) d m → IsDueIn v a d m
  due_bare a (Net p) m due = record { served = due.served; due = due.due }
  due_bare a (Router r) m due = record { served = due.served; due = due.due }

  -- what is due in an area rests on no range of its own
  due_kept : (a b : AreaConfig) → with_others a [] ≡ with_others b [] → (d : Dest) (m : ℕ) → IsDueIn v a d m → IsDueIn v b d m
  due_kept a b same d m due = due_bare b d m (subst (λ (x : AreaConfig). IsDueIn v x d m) same (bare_due a d m due))

  list_kept : (a b : AreaConfig) → with_others a [] ≡ with_others b [] → (w : AreaSummariesValue) → IsListOf v a w → IsListOf v b w
  list_kept a b same w is = record {
    area = is.area ∙ ap (λ (x : AreaConfig). x.id) same;
    in_order = is.in_order;
    exact = λ due. (
      λ c. let h = (is.exact due).0 c in (due_kept a b same due.dest due.metric h.0, h.1),
      λ h. (is.exact due).1 (due_kept b a (sym same) due.dest due.metric h.0, h.1),
    );
  }

  lists_kept : (xs ys : List AreaConfig) → areas_without_ranges xs ≡ areas_without_ranges ys → (lists : List AreaSummariesValue) → AreListsOf v xs lists → AreListsOf v ys lists
  lists_kept [] [] same lists are = are
  lists_kept [] (y ∷ ys) same lists are = absurd cc
  lists_kept (x ∷ xs) [] same lists are = absurd cc
  lists_kept (x ∷ xs) (y ∷ ys) same [] are = absurd are
  lists_kept (x ∷ xs) (y ∷ ys) same (w ∷ lists) are =
      let here : with_others x [] ≡ with_others y [] = cc in
      let rest : areas_without_ranges xs ≡ areas_without_ranges ys = cc in
      (list_kept x y here w are.0, lists_kept xs ys rest lists are.1)

-- the lists of before belong to the areas now, of which the ranges may differ
pub lists_now : (before now : SummaryInputsValue) (lists : List AreaSummariesValue) → areas_without_ranges now.areas ≡ areas_without_ranges before.areas → AreListsOf before before.areas lists → AreListsOf before now.areas lists
lists_now before now lists same are = lists_kept before before.areas now.areas (sym same) lists are
