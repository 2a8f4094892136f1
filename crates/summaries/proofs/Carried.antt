-- Plans are carried out one by one.
use Rattle.std.proofs.Common.{◌≡◌, ℕ, ◌+◌, ◌<◌, ◌≤◌, List, [], ◌∷◌, ◌++◌, length, get_or, set, take, drop, refl, sym, ap, subst, ◌∙◌, inl, inr, arith, append_assoc}
use Rattle.std.proofs.lemmas.Bool.{cases_lt}
use Rattle.std.proofs.Math.Seq.{map-set_same}
use Rattle.std.proofs.lemmas.List.{drop_all, take_more_set, drop-set-lt, take-append-drop}
use Rattle.summary_lists.specs.declared.plan.AreaPlan.{AreaPlan}
use Rattle.summary_lists.specs.Lists.{AreaSummariesValue, Metrics}
use Rattle.summary_lists.specs.Plans.{Fits, IsListChanged}
use Rattle.summaries.specs.Carrying.{AllFit, AllChanged, changes_of}
use Rattle.summary_lists.proofs.Changing.{left_at}

-- this many were carried out: the plans that are left may be, and then all were
pub record IsCarriedTo (plans : List AreaPlan) (old : List AreaSummariesValue) (left : List AreaPlan) (now : List AreaSummariesValue) (i : ℕ) : Type 0 where
  pub fits : AllFit left (drop i now)
  pub leads : (after : List AreaSummariesValue) → AllChanged (changes_of left) (drop i now) after → AllChanged (changes_of plans) old (take i now ++ after)

-- this many were carried out, of plans whose changes are still what they were
pub record AreCarriedTo (plans now_plans : List AreaPlan) (old now : List AreaSummariesValue) (i : ℕ) : Type 0 where
  pub changes : changes_of now_plans ≡ changes_of plans
  pub carried : IsCarriedTo plans old (drop i now_plans) now i

pub none_carried : (plans : List AreaPlan) (old : List AreaSummariesValue) → AllFit plans old → AreCarriedTo plans plans old old 0
none_carried plans old fits = record { changes = refl; carried = record { fits = fits; leads = λ after h. h } }

fits_first : (p : AreaPlan) (left : List AreaPlan) (lists : List AreaSummariesValue) → AllFit (p ∷ left) lists → lists ≡ [] → ⊥
fits_first p left lists fits none = subst (AllFit (p ∷ left)) none fits

module _ (plans : List AreaPlan) (old : List AreaSummariesValue) (now : List AreaSummariesValue) (i : ℕ) where
  module _ (p : AreaPlan) (left : List AreaPlan) (carried : IsCarriedTo plans old (p ∷ left) now i) where
    -- there is a list for it
    list_for : i < length now
    list_for = elim (cases_lt i (length now)) [ inl lt ↦ lt | inr past ↦ absurd (fits_first p left (drop i now) carried.fits (drop_all i now past)) ]

    module _ (w : AreaSummariesValue) (at : w ≡ get_or now i w) where
      split : drop i now ≡ w ∷ drop (i + 1) now
      split = left_at now i w list_for at

      fits_now : AllFit (p ∷ left) (w ∷ drop (i + 1) now)
      fits_now = subst (AllFit (p ∷ left)) split carried.fits

      carried_one : (x : AreaSummariesValue) → IsListChanged p.metrics.items w x → IsCarriedTo plans old left (set now i x) (i + 1)
      carried_one x changed =
          let same : drop (i + 1) (set now i x) ≡ drop (i + 1) now = drop-set-lt (i + 1) now i x (omega arith) in
          record {
            fits = subst (AllFit left) (sym same) fits_now.1;
            leads = λ after h.
                let rest : AllChanged (changes_of left) (drop (i + 1) now) after = subst (λ (lists : List AreaSummariesValue). AllChanged (changes_of left) lists after) same h in
                let whole : AllChanged (changes_of plans) old (take i now ++ x ∷ after) = carried.leads (x ∷ after) (subst (λ (lists : List AreaSummariesValue). AllChanged (changes_of (p ∷ left)) lists (x ∷ after)) (sym split) (changed, rest)) in
                subst (AllChanged (changes_of plans) old) (sym (append_assoc (take i now) (x ∷ []) after) ∙ ap (λ (first : List AreaSummariesValue). first ++ after) (sym (take_more_set now i x list_for))) whole;
          }

  module _ (now_plans : List AreaPlan) (are : AreCarriedTo plans now_plans old now i) (p : AreaPlan) (lt : i < length now_plans) (p_at : p ≡ get_or now_plans i p) where
    first : IsCarriedTo plans old (p ∷ drop (i + 1) now_plans) now i
    first = subst (λ (left : List AreaPlan). IsCarriedTo plans old left now i) (left_at now_plans i p lt p_at) are.carried

    -- there is a list for it
    pub list_there : i < length now
    list_there = list_for p (drop (i + 1) now_plans) first

    module _ (w : AreaSummariesValue) (at : w ≡ get_or now i w) where
      -- it may be carried out
      pub fits_there : Fits p w
      fits_there = (fits_now p (drop (i + 1) now_plans) first w at).0

      pub carried_more : (x : AreaSummariesValue) (q : AreaPlan) → q.area ≡ p.area → q.metrics ≡ p.metrics → IsListChanged p.metrics.items w x → AreCarriedTo plans (set now_plans i q) old (set now i x) (i + 1)
      carried_more x q area metrics changed = record {
        changes =
            let f : AreaPlan → ℕ × Metrics = λ r. (r.area, r.metrics.items) in
            let same : f q ≡ f p = λ k. (area k, (metrics k).items) in
            map-set_same f now_plans i q p (same ∙ ap f p_at) ∙ are.changes;
        carried = subst (λ (left : List AreaPlan). IsCarriedTo plans old left (set now i x) (i + 1)) (sym (drop-set-lt (i + 1) now_plans i q (omega arith)))
            (carried_one p (drop (i + 1) now_plans) first w at x changed);
      }

  pub carried_all : (now_plans : List AreaPlan) → length now_plans ≤ i → AreCarriedTo plans now_plans old now i → AllChanged (changes_of plans) old now
  carried_all now_plans past are =
      let done = subst (λ (left : List AreaPlan). IsCarriedTo plans old left now i) (drop_all i now_plans past) are.carried in
      subst (AllChanged (changes_of plans) old) (take-append-drop i now) (done.leads (drop i now) refl)
