-- The due metrics are compared with the list, destination by destination.
--   compared_more: one more destination
--   compared_all: all of them
use Rattle.std.proofs.Common.{◌≡◌, ℕ, ◌+◌, ◌<◌, ◌≤◌, List, [], ◌∷◌, ◌++◌, length, get_or, take, drop, Option, Some, None, refl, sym, ap, subst, ◌∙◌, ◌⊎◌, inl, inr, append-nil, append_assoc, true, eq-eqb}
use Rattle.std.specs.Prelude.{◌↔◌}
use Rattle.std.specs.Option.{option_eq}
use Rattle.std.proofs.Math.Dec.{eqb}
use Rattle.std.specs.declared.cmp.Ordering.TheVariants.{Less}
use Rattle.std.specs.List.{Contains, AllByRecursion}
use Rattle.std.specs.List.Sorted.{IsStrictlySortedBy}
use Rattle.std.specs.Map.{keys_of}
use Rattle.std.proofs.lemmas.List.{take_all, drop_all, map-append, take-append-drop}
use Rattle.std.proofs.lemmas.Map.Keys.{sorted_head}
use Rattle.std.proofs.lemmas.List.Elements.{All-contains, All-from_recursion, Contains-append_left, Contains-append_right, Contains-append_cases}
use Rattle.ospf_types.specs.declared.config.AreaConfig.{AreaConfig}
use Rattle.ospf_types.specs.declared.key.Dest.{Dest}
use Rattle.ospf_types.specs.Keys.{dest_cmp}
use Rattle.ospf_types.proofs.Elements.{no_element, first_element, contains_more}
use Rattle.ospf_types.proofs.InOrder.{only_item}
use Rattle.summary_lists.specs.declared.due.DueSummary.{DueSummary}
use Rattle.summaries.specs.Inputs.{SummaryInputsValue}
use Rattle.summaries.specs.Giving.{IsDueIn}
use Rattle.summary_lists.specs.Lists.{Metrics, IsMetricIn, due_for}
use Rattle.summaries.specs.Changes.{AreChangesIn, IsChangeAdded}
use Rattle.summary_lists.proofs.Changing.{left_at}

-- ---- two metrics of one destination

-- a metric that the list has is the one that it has
pub one_metric : (list : List DueSummary) (d : Dest) (m n : Option ℕ) → IsMetricIn list d m → IsMetricIn list d n → m ≡ n
one_metric list d None None h k = refl
one_metric list d None (Some y) h k = (h y).1 ((k y).0 refl)
one_metric list d (Some x) n h k = sym ((k x).1 ((h x).0 refl))

-- metrics that are equal are tested to be
pub equal_tested : (m n : Option ℕ) → m ≡ n → option_eq eqb m n ≡ true
equal_tested m n e = subst (λ (o : Option ℕ). option_eq eqb m o ≡ true) e (itself m)
  where
    itself : (o : Option ℕ) → option_eq eqb o o ≡ true
    itself None = refl
    itself (Some x) = eq-eqb x x refl

-- ---- an item is left out of a list in order

all_without : (P : Dest → Type 0) (xs : List Dest) (d : Dest) (rest : List Dest) → AllByRecursion P (xs ++ d ∷ rest) → AllByRecursion P (xs ++ rest)
all_without P [] d rest h = h.1
all_without P (x ∷ xs) d rest h = (h.0, all_without P xs d rest h.1)

sorted_without : (xs : List Dest) (d : Dest) (rest : List Dest) → IsStrictlySortedBy dest_cmp (xs ++ d ∷ rest) → IsStrictlySortedBy dest_cmp (xs ++ rest)
unfolding IsStrictlySortedBy
sorted_without [] d rest h = h.1
sorted_without (x ∷ xs) d rest h = (all_without (λ e. dest_cmp x e ≡ Less) xs d rest h.0, sorted_without xs d rest h.1)

sorted_last : (xs ys : List Dest) → IsStrictlySortedBy dest_cmp (xs ++ ys) → IsStrictlySortedBy dest_cmp ys
unfolding IsStrictlySortedBy
sorted_last [] ys h = h
sorted_last (x ∷ xs) ys h = sorted_last xs ys h.1

-- those after a destination of a list in order come after it
pub later_dests : (dests : List Dest) (i : ℕ) (d : Dest) → i < length dests → d ≡ get_or dests i d → IsStrictlySortedBy dest_cmp dests → (e : Dest) → Contains (drop (i + 1) dests) e → dest_cmp d e ≡ Less
later_dests dests i d lt at ordered e c =
    let rest = drop (i + 1) dests in
    let whole : take i dests ++ d ∷ rest ≡ dests = ap (λ (ds : List Dest). take i dests ++ ds) (sym (left_at dests i d lt at)) ∙ take-append-drop i dests in
    let last : IsStrictlySortedBy dest_cmp (d ∷ rest) = sorted_last (take i dests) (d ∷ rest) (subst (IsStrictlySortedBy dest_cmp) (sym whole) ordered) in
    All-contains (λ f. dest_cmp d f ≡ Less) rest e (All-from_recursion (λ f. dest_cmp d f ≡ Less) rest (sorted_head dest_cmp d rest last)) c

-- ---- this many destinations were compared

pub record AreComparedTo (v : SummaryInputsValue) (a : AreaConfig) (list : List DueSummary) (dests : List Dest) (metrics : Metrics) (i : ℕ) : Type 0 where
  pub in_order : IsStrictlySortedBy dest_cmp (keys_of metrics ++ drop i dests)
  pub named : (d : Dest) → Contains (keys_of metrics) d → Contains (take i dests) d × (((m : ℕ) → IsDueIn v a d m ↔ Contains list (due_for d m)) → ⊥)
  pub here : (d : Dest) (metric : Option ℕ) → Contains metrics (d, metric) → (m : ℕ) → (metric ≡ Some m) ↔ IsDueIn v a d m
  pub others : (d : Dest) → Contains (take i dests) d → (Contains (keys_of metrics) d → ⊥) → (m : ℕ) → IsDueIn v a d m ↔ Contains list (due_for d m)

module _ (v : SummaryInputsValue) (a : AreaConfig) (list : List DueSummary) (dests : List Dest) where
  pub none_compared : IsStrictlySortedBy dest_cmp dests → AreComparedTo v a list dests [] 0
  none_compared ordered = record {
    in_order = ordered;
    named = λ d c. absurd (no_element d c);
    here = λ d metric c. absurd (no_element (d, metric) c);
    others = λ d c. absurd (no_element d c);
  }

  module _ (metrics : Metrics) (i : ℕ) (d : Dest) (metric : Option ℕ) (lt : i < length dests) (at : d ≡ get_or dests i d) (right : (m : ℕ) → (metric ≡ Some m) ↔ IsDueIn v a d m) (compared : AreComparedTo v a list dests metrics i) where
    ordered : IsStrictlySortedBy dest_cmp (keys_of metrics ++ d ∷ drop (i + 1) dests)
    ordered = subst (λ (ds : List Dest). IsStrictlySortedBy dest_cmp (keys_of metrics ++ ds)) (left_at dests i d lt at) compared.in_order

    sooner : (e : Dest) → Contains (take i dests) e → Contains (take (i + 1) dests) e
    sooner e c = (contains_more dests i d e lt at).1 (inl c)

    -- the list has it so
    stays : IsMetricIn list d metric → AreComparedTo v a list dests metrics (i + 1)
    stays same = record {
      in_order = sorted_without (keys_of metrics) d (drop (i + 1) dests) ordered;
      named = λ e c. let was = compared.named e c in (sooner e was.0, was.1);
      here = compared.here;
      others = λ e c no. elim ((contains_more dests i d e lt at).0 c) [
        | inl before ↦ compared.others e before no
        | inr now ↦ subst (λ (k : Dest). (m : ℕ) → IsDueIn v a k m ↔ Contains list (due_for k m)) (sym now) (λ m. (λ h. (same m).0 ((right m).1 h), λ h. (right m).0 ((same m).1 h)))
      ];
    }

    -- the list has it otherwise
    added : (IsMetricIn list d metric → ⊥) → AreComparedTo v a list dests (metrics ++ (d, metric) ∷ []) (i + 1)
    added differs =
        let keys : keys_of (metrics ++ (d, metric) ∷ []) ≡ keys_of metrics ++ d ∷ [] = map-append (λ (e : Dest × Option ℕ). e.0) metrics ((d, metric) ∷ []) in
        let cases : (e : Dest) → Contains (keys_of (metrics ++ (d, metric) ∷ [])) e → Contains (keys_of metrics) e ⊎ (e ≡ d) = λ e c.
        elim (Contains-append_cases (keys_of metrics) (d ∷ []) e (subst (λ (ks : List Dest). Contains ks e) keys c)) [ inl h ↦ inl h | inr h ↦ inr (only_item d e h) ] in
        let early : (e : Dest) → Contains (keys_of metrics) e → Contains (keys_of (metrics ++ (d, metric) ∷ [])) e = λ e c.
        subst (λ (ks : List Dest). Contains ks e) (sym keys) (Contains-append_left (keys_of metrics) (d ∷ []) e c) in
        let last : Contains (keys_of (metrics ++ (d, metric) ∷ [])) d = subst (λ (ks : List Dest). Contains ks d) (sym keys) (Contains-append_right (keys_of metrics) (d ∷ []) d (first_element d [])) in
        record {
          in_order = subst (λ (ds : List Dest). IsStrictlySortedBy dest_cmp ds) (sym (append_assoc (keys_of metrics) (d ∷ []) (drop (i + 1) dests)) ∙ ap (λ (ks : List Dest). ks ++ drop (i + 1) dests) (sym keys)) ordered;
          named = λ e c. elim (cases e c) [
            | inl before ↦ let was = compared.named e before in (sooner e was.0, was.1)
            | inr now ↦
                subst (λ (k : Dest). Contains (take (i + 1) dests) k × (((m : ℕ) → IsDueIn v a k m ↔ Contains list (due_for k m)) → ⊥)) (sym now)
                ((contains_more dests i d d lt at).1 (inr refl), λ same. differs (λ m. (λ h. (same m).0 ((right m).0 h), λ h. (right m).1 ((same m).1 h))))
          ];
          here = λ e other c. elim (Contains-append_cases metrics ((d, metric) ∷ []) (e, other) c) [
            | inl before ↦ compared.here e other before
            | inr now ↦ subst (λ (p : Dest × Option ℕ). (m : ℕ) → (p.1 ≡ Some m) ↔ IsDueIn v a p.0 m) (sym (only_item (d, metric) (e, other) now)) right
          ];
          others = λ e c no. elim ((contains_more dests i d e lt at).0 c) [
            | inl before ↦ compared.others e before (λ k. no (early e k))
            | inr now ↦ absurd (no (subst (Contains (keys_of (metrics ++ (d, metric) ∷ []))) (sym now) last))
          ];
        }

    pub compared_more : (next : Metrics) → IsChangeAdded list d metric metrics next → AreComparedTo v a list dests next (i + 1)
    compared_more next told = elim told [
      | inl h ↦ subst (λ (ms : Metrics). AreComparedTo v a list dests ms (i + 1)) (sym h.0) (stays h.1)
      | inr h ↦ subst (λ (ms : Metrics). AreComparedTo v a list dests ms (i + 1)) (sym h.0) (added h.1)
    ]

  pub compared_all : (metrics : Metrics) (i : ℕ) → length dests ≤ i → AreComparedTo v a list dests metrics i → AreChangesIn v a list dests metrics
  compared_all metrics i past compared = record {
    in_order = subst (IsStrictlySortedBy dest_cmp) (ap (λ (ds : List Dest). keys_of metrics ++ ds) (drop_all i dests past) ∙ append-nil (keys_of metrics)) compared.in_order;
    named = λ d c. let was = compared.named d c in (subst (λ (ds : List Dest). Contains ds d) (take_all i dests past) was.0, was.1);
    here = compared.here;
    others = λ d c. compared.others d (subst (λ (ds : List Dest). Contains ds d) (sym (take_all i dests past)) c);
  }
