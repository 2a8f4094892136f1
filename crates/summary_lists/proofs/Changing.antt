-- Changes one after the other.
use Rattle.std.proofs.Common.{◌≡◌, ℕ, ◌+◌, ◌<◌, List, ◌∷◌, length, drop, get_or, Option, sym, ap, subst, ◌∙◌, ⊎_elim}
use Rattle.std.specs.declared.cmp.Ordering.TheVariants.{Less}
use Rattle.std.specs.List.{All, Contains}
use Rattle.std.specs.Map.{keys_of}
use Rattle.std.proofs.lemmas.List.{drop_more}
use Rattle.std.proofs.lemmas.List.Elements.{All-from_recursion, All-contains}
use Rattle.std.proofs.lemmas.Map.Keys.{sorted_head, sorted_tail}
use Rattle.ospf_types.specs.declared.key.Dest.{Dest}
use Rattle.ospf_types.specs.Keys.{dest_cmp}
use Rattle.ospf_types.proofs.Elements.{first_element, later_element, first_or_later}
use Rattle.summary_lists.specs.declared.due.DueSummary.{DueSummary}
use Rattle.summary_lists.specs.Lists.{due_for, Metrics, AreMetricsInOrder, IsMetricIn, IsPut, IsChangedBy}
use Rattle.summary_lists.proofs.Parts.{not_less_itself}

module _ (d : Dest) (metric : Option ℕ) (left : Metrics) (ordered : AreMetricsInOrder ((d, metric) ∷ left)) where
  pub below_left : All (λ e. dest_cmp d e ≡ Less) (keys_of left)
  below_left = All-from_recursion (λ e. dest_cmp d e ≡ Less) (keys_of left) (sorted_head dest_cmp d (keys_of left) ordered)

  pub left_ordered : AreMetricsInOrder left
  left_ordered = sorted_tail dest_cmp d (keys_of left) ordered

  not_left : Contains (keys_of left) d → ⊥
  not_left c = not_less_itself d (All-contains (λ e. dest_cmp d e ≡ Less) (keys_of left) d below_left c)

  -- the first change, and then the others
  pub changed_first : (old mid new : List DueSummary) → IsPut d metric old mid → IsChangedBy left mid new → IsChangedBy ((d, metric) ∷ left) old new
  changed_first old mid new put changed =
      let first : IsMetricIn new d metric = λ m.
      let stays = changed.others (due_for d m) not_left in
      (λ e. stays.1 ((put.here m).0 e), λ c. (put.here m).1 (stays.0 c)) in
      record {
        here = λ e other c. ⊎_elim
            (λ (same : (e, other) ≡ (d, metric)). subst (λ (p : Dest × Option ℕ). IsMetricIn new p.0 p.1) (sym same) first)
            (λ (later : Contains left (e, other)). changed.here e other later)
            (first_or_later (d, metric) (e, other) left c);
        others = λ due no.
            let later = changed.others due (λ c. no (later_element d due.dest (keys_of left) c)) in
            let now = put.others due (λ same. no (subst (λ (e : Dest). Contains (d ∷ keys_of left) e) (sym same) (first_element d (keys_of left)))) in
            (λ c. now.0 (later.0 c), λ c. later.1 (now.1 c));
      }

-- what is left of a list at a place
pub left_at : {A : Type 0} (xs : List A) (i : ℕ) (x : A) → i < length xs → x ≡ get_or xs i x → drop i xs ≡ x ∷ drop (i + 1) xs
left_at {A} xs i x lt is = drop_more xs i x lt ∙ ap (λ (z : A). z ∷ drop (i + 1) xs) (sym is)

-- the changes that are left lead where all of them do
pub record AreLeft (all : Metrics) (old : List DueSummary) (left : Metrics) (now : List DueSummary) : Type 0 where
  pub leads : (new : List DueSummary) → IsChangedBy left now new → IsChangedBy all old new
  pub in_order : AreMetricsInOrder left

pub next_left : (all : Metrics) (old : List DueSummary) (d : Dest) (metric : Option ℕ) (left : Metrics) (now next : List DueSummary) → IsPut d metric now next → AreLeft all old ((d, metric) ∷ left) now → AreLeft all old left next
next_left all old d metric left now next put h = record {
  leads = λ new changed. h.leads new (changed_first d metric left h.in_order now next new put changed);
  in_order = left_ordered d metric left h.in_order;
}

-- a change at a place
pub next_left_at : (all : Metrics) (old now next : List DueSummary) (i : ℕ) (x : Dest × Option ℕ) → i < length all → x ≡ get_or all i x → IsPut x.0 x.1 now next → AreLeft all old (drop i all) now → AreLeft all old (drop (i + 1) all) next
next_left_at all old now next i x lt is put h =
    next_left all old x.0 x.1 (drop (i + 1) all) now next put (subst (λ (left : Metrics). AreLeft all old left now) (left_at all i x lt is) h)
