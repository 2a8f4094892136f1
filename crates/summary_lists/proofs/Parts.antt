-- The parts of a list before and after a destination, and the list with another metric of it.
use Rattle.std.proofs.Common.{◌≡◌, ◌≢◌, ℕ, Bool, true, false, cond, List, [], ◌∷◌, ◌++◌, map, Option, Some, None, Ordering, refl, sym, ap, subst, ◌∙◌, ⊎_elim, append-nil}
use Rattle.std.specs.Prelude.{◌↔◌}
use Rattle.std.specs.declared.cmp.Ordering.TheVariants.{Less, Equal, Greater}
use Rattle.std.specs.Ordering.{is_lt, is_gt, ordering_reverse}
use Rattle.std.specs.List.{All, AllByRecursion, Contains, filter}
use Rattle.std.specs.List.Sorted.{IsStrictlySortedBy}
use Rattle.std.proofs.lemmas.Cmp.{tied_itself}
use Rattle.std.proofs.lemmas.List.Elements.{All-head, All-tail, All-nil, All-cons, All-append, All-filter, All-weaker, All-contains, All-contains_itself, filter-append, filter_passes, Contains-append_left, Contains-append_right, Contains-append_cases}
use Rattle.ospf_types.specs.declared.key.Dest.{Dest}
use Rattle.ospf_types.specs.Keys.{dest_cmp}
use Rattle.ospf_types.proofs.Elements.{no_element, first_element, later_element, first_or_later}
use Rattle.ospf_types.proofs.InOrder.{only_item}
use Rattle.ospf_types.proofs.Orders.{dest_total, dest_exact}
use Rattle.summary_lists.specs.declared.due.DueSummary.{DueSummary}
use Rattle.summary_lists.specs.Lists.{due_for, kind_of, AreInOrder, AreOfKind, IsMetricIn, IsPut}
use Rattle.summary_lists.specs.Places.{those_before, those_after, those_at, with_metric}

-- ---- filters

module _ {X : Type 0} (test : X → Bool) where
  kept : (xs : List X) (y : X) → Contains xs y → test y ≡ true → Contains (filter test xs) y
  kept [] y h e = absurd (no_element y h)
  kept (x ∷ xs) y h e =
      ⊎_elim
      (λ (same : y ≡ x). subst (λ (b : Bool). Contains (cond b (x ∷ filter test xs) (filter test xs)) y) (sym (ap test (sym same) ∙ e)) (subst (Contains (x ∷ filter test xs)) (sym same) (first_element x (filter test xs))))
      (λ (later : Contains xs y). elim (test x) as (λ b. Contains (cond b (x ∷ filter test xs) (filter test xs)) y) [
        | true ↦ later_element x y (filter test xs) (kept xs y later e)
        | false ↦ kept xs y later e
      ])
      (first_or_later x y xs h)

  kept_from : (xs : List X) (y : X) → Contains (filter test xs) y → Contains xs y
  kept_from xs y h = All-contains (Contains xs) (filter test xs) y (All-filter test (Contains xs) xs (All-contains_itself xs)) h

  all_kept : (xs : List X) → All (λ x. test x ≡ true) xs → filter test xs ≡ xs
  all_kept [] h = refl
  all_kept (x ∷ xs) h =
      let passes : test x ≡ true = All-head (λ x. test x ≡ true) x xs h in
      subst (λ (b : Bool). cond b (x ∷ filter test xs) (filter test xs) ≡ x ∷ xs) (sym passes) (ap (λ ys. x ∷ ys) (all_kept xs (All-tail (λ x. test x ≡ true) x xs h)))

  none_kept : (xs : List X) → All (λ x. test x ≡ false) xs → filter test xs ≡ []
  none_kept [] h = refl
  none_kept (x ∷ xs) h =
      let fails : test x ≡ false = All-head (λ x. test x ≡ false) x xs h in
      subst (λ (b : Bool). cond b (x ∷ filter test xs) (filter test xs) ≡ []) (sym fails) (none_kept xs (All-tail (λ x. test x ≡ false) x xs h))

-- ---- orders

less_from : (o : Ordering) → is_lt o ≡ true → o ≡ Less
less_from Less h = refl
less_from Equal h = absurd cc
less_from Greater h = absurd cc

greater_from : (o : Ordering) → is_gt o ≡ true → o ≡ Greater
greater_from Less h = absurd cc
greater_from Equal h = absurd cc
greater_from Greater h = refl

-- the order the other way round
pub turned : (d e : Dest) → dest_cmp d e ≡ Greater → dest_cmp e d ≡ Less
turned d e h = dest_total.antisymm e d ∙ ap ordering_reverse h

pub turned_back : (d e : Dest) → dest_cmp d e ≡ Less → dest_cmp e d ≡ Greater
turned_back d e h = dest_total.antisymm e d ∙ ap ordering_reverse h

pub not_less_itself : (d : Dest) → dest_cmp d d ≡ Less → ⊥
not_less_itself d h = let tie = tied_itself dest_total d in cc

not_greater_itself : (d : Dest) → dest_cmp d d ≡ Greater → ⊥
not_greater_itself d h = let tie = tied_itself dest_total d in cc

-- ---- lists in order

module _ (P : Dest → Type 0) where
  pub each_dest : (list : List DueSummary) → All (λ due. P due.dest) list → AllByRecursion P (map (λ due. due.dest) list)
  each_dest [] h = tt
  each_dest (x ∷ xs) h = (All-head (λ due. P due.dest) x xs h, each_dest xs (All-tail (λ due. P due.dest) x xs h))

  pub from_each_dest : (list : List DueSummary) → AllByRecursion P (map (λ due. due.dest) list) → All (λ due. P due.dest) list
  from_each_dest [] h = All-nil (λ due. P due.dest)
  from_each_dest (x ∷ xs) h = All-cons (λ due. P due.dest) x xs h.0 (from_each_dest xs h.1)

abbrev pub IsBeforeAll : List DueSummary → DueSummary → Type 0
IsBeforeAll list x = All (λ y. dest_cmp x.dest y.dest ≡ Less) list

-- each of one list is before each of the other
abbrev pub AreBefore : List DueSummary → List DueSummary → Type 0
AreBefore xs ys = All (IsBeforeAll ys) xs

pub ordered_append : (xs ys : List DueSummary) → AreInOrder xs → AreInOrder ys → AreBefore xs ys → AreInOrder (xs ++ ys)
unfolding IsStrictlySortedBy
ordered_append [] ys first second before = second
ordered_append (x ∷ xs) ys first second before = (
  each_dest (λ e. dest_cmp x.dest e ≡ Less) (xs ++ ys)
      (All-append (λ y. dest_cmp x.dest y.dest ≡ Less) xs ys (from_each_dest (λ e. dest_cmp x.dest e ≡ Less) xs first.0) (All-head (IsBeforeAll ys) x xs before)),
  ordered_append xs ys first.1 second (All-tail (IsBeforeAll ys) x xs before),
)

-- what comes last in a list in order is in order
pub ordered_last : (xs ys : List DueSummary) → AreInOrder (xs ++ ys) → AreInOrder ys
unfolding IsStrictlySortedBy
ordered_last [] ys h = h
ordered_last (x ∷ xs) ys h = ordered_last xs ys h.1

ordered_filter : (test : DueSummary → Bool) (xs : List DueSummary) → AreInOrder xs → AreInOrder (filter test xs)
unfolding IsStrictlySortedBy
ordered_filter test [] h = tt
ordered_filter test (x ∷ xs) h =
    elim (test x) as (λ b. AreInOrder (cond b (x ∷ filter test xs) (filter test xs))) [
      | true ↦ (
        each_dest (λ e. dest_cmp x.dest e ≡ Less) (filter test xs) (All-filter test (λ y. dest_cmp x.dest y.dest ≡ Less) xs (from_each_dest (λ e. dest_cmp x.dest e ≡ Less) xs h.0)),
        ordered_filter test xs h.1,
      )
      | false ↦ ordered_filter test xs h.1
    ]

-- ---- the parts

module _ (d : Dest) where
  pub before_less : (list : List DueSummary) → All (λ due. dest_cmp due.dest d ≡ Less) (those_before d list)
  before_less list = All-weaker (λ due. is_lt (dest_cmp due.dest d) ≡ true) (λ due. dest_cmp due.dest d ≡ Less) (λ due h. less_from _ h) (those_before d list) (filter_passes (λ due. is_lt (dest_cmp due.dest d)) list)

  pub after_greater : (list : List DueSummary) → All (λ due. dest_cmp due.dest d ≡ Greater) (those_after d list)
  after_greater list = All-weaker (λ due. is_gt (dest_cmp due.dest d) ≡ true) (λ due. dest_cmp due.dest d ≡ Greater) (λ due h. greater_from _ h) (those_after d list) (filter_passes (λ due. is_gt (dest_cmp due.dest d)) list)

  abbrev pub AreAll : Ordering → List DueSummary → Type 0
  AreAll o list = All (λ due. dest_cmp due.dest d ≡ o) list

  lt_of : (o : Ordering) (list : List DueSummary) → AreAll o list → All (λ due. is_lt (dest_cmp due.dest d) ≡ is_lt o) list
  lt_of o list h = All-weaker (λ due. dest_cmp due.dest d ≡ o) (λ due. is_lt (dest_cmp due.dest d) ≡ is_lt o) (λ due e. ap is_lt e) list h

  gt_of : (o : Ordering) (list : List DueSummary) → AreAll o list → All (λ due. is_gt (dest_cmp due.dest d) ≡ is_gt o) list
  gt_of o list h = All-weaker (λ due. dest_cmp due.dest d ≡ o) (λ due. is_gt (dest_cmp due.dest d) ≡ is_gt o) (λ due e. ap is_gt e) list h

  pub all_before : (list : List DueSummary) → AreAll Less list → (those_before d list ≡ list) × (those_after d list ≡ [])
  all_before list h = (all_kept _ list (lt_of Less list h), none_kept _ list (gt_of Less list h))

  pub none_but_here : (list : List DueSummary) → AreAll Equal list → (those_before d list ≡ []) × (those_after d list ≡ [])
  none_but_here list h = (none_kept _ list (lt_of Equal list h), none_kept _ list (gt_of Equal list h))

  pub all_after : (list : List DueSummary) → AreAll Greater list → (those_before d list ≡ []) × (those_after d list ≡ list)
  all_after list h = (none_kept _ list (lt_of Greater list h), all_kept _ list (gt_of Greater list h))

  -- a list that is cut before the destination and after it
  pub parted : (low here high : List DueSummary) → AreAll Less low → AreAll Equal here → AreAll Greater high
      → (those_before d (low ++ (here ++ high)) ≡ low) × (those_after d (low ++ (here ++ high)) ≡ high)
  parted low here high less same greater =
      let a = all_before low less in
      let b = none_but_here here same in
      let e = all_after high greater in
      let lt : DueSummary → Bool = λ due. is_lt (dest_cmp due.dest d) in
      let gt : DueSummary → Bool = λ due. is_gt (dest_cmp due.dest d) in
      let lower : those_before d (low ++ (here ++ high)) ≡ low ++ ([] ++ []) =
      filter-append lt low (here ++ high) ∙ (λ i. a.0 i ++ filter-append lt here high i) ∙ (λ i. low ++ (b.0 i ++ e.0 i)) in
      let upper : those_after d (low ++ (here ++ high)) ≡ [] ++ ([] ++ high) =
      filter-append gt low (here ++ high) ∙ (λ i. a.1 i ++ filter-append gt here high i) ∙ (λ i. [] ++ (b.1 i ++ e.1 i)) in
      (lower ∙ append-nil low, upper)

-- ---- another metric

module _ (d : Dest) (metric : Option ℕ) where
  pub each_at : (P : DueSummary → Type 0) → ((m : ℕ) → P (due_for d m)) → All P (those_at d metric)
  each_at P h = elim metric as (λ o. All P (those_at d o)) [ None ↦ All-nil P | Some m ↦ All-cons P (due_for d m) [] (h m) (All-nil P) ]

only_at : (d : Dest) (metric : Option ℕ) (m : ℕ) → (metric ≡ Some m) ↔ Contains (those_at d metric) (due_for d m)
only_at d None m = (λ e. absurd cc, λ c. absurd (no_element (due_for d m) c))
only_at d (Some k) m = (
  λ e. subst (λ (o : Option ℕ). Contains (those_at d o) (due_for d m)) (sym e) (first_element (due_for d m) []),
  λ c. ap (λ (due : DueSummary). let o : Option ℕ = Some due.metric in o) (sym (only_item (due_for d k) (due_for d m) c)),
)

module _ (d : Dest) (metric : Option ℕ) (list : List DueSummary) where
  pub metric_here : IsMetricIn (with_metric d metric list) d metric
  metric_here m =
      let due = due_for d m in
      let low = those_before d list in
      let high = those_after d list in (
        λ e. Contains-append_right low (those_at d metric ++ high) due (Contains-append_left (those_at d metric) high due ((only_at d metric m).0 e)),
        λ c. ⊎_elim
            (λ (h : Contains low due). absurd (not_less_itself d (All-contains (λ x. dest_cmp x.dest d ≡ Less) low due (before_less d list) h)))
            (λ (h : Contains (those_at d metric ++ high) due). ⊎_elim
            (λ (h : Contains (those_at d metric) due). (only_at d metric m).1 h)
            (λ (h : Contains high due). absurd (not_greater_itself d (All-contains (λ x. dest_cmp x.dest d ≡ Greater) high due (after_greater d list) h)))
            (Contains-append_cases (those_at d metric) high due h))
            (Contains-append_cases low (those_at d metric ++ high) due c),
      )

  pub others_stay : (due : DueSummary) → due.dest ≢ d → Contains (with_metric d metric list) due ↔ Contains list due
  others_stay due other =
      let low = those_before d list in
      let high = those_after d list in
      let rest = those_at d metric ++ high in
      let is_there : (o : Ordering) → dest_cmp due.dest d ≡ o → Contains list due → Contains (low ++ rest) due =
      λ o. elim o as (λ o. dest_cmp due.dest d ≡ o → Contains list due → Contains (low ++ rest) due) [
        | Less ↦ λ e h. Contains-append_left low rest due (kept (λ x. is_lt (dest_cmp x.dest d)) list due h (ap is_lt e))
        | Equal ↦ λ e h. absurd (other (dest_exact _ _ e))
        | Greater ↦ λ e h. Contains-append_right low rest due (Contains-append_right (those_at d metric) high due (kept (λ x. is_gt (dest_cmp x.dest d)) list due h (ap is_gt e)))
      ] in (
        λ c. ⊎_elim
            (λ (h : Contains low due). kept_from (λ x. is_lt (dest_cmp x.dest d)) list due h)
            (λ (h : Contains rest due). ⊎_elim
            (λ (h : Contains (those_at d metric) due). absurd (other (All-contains (λ x. x.dest ≡ d) (those_at d metric) due (each_at d metric (λ x. x.dest ≡ d) (λ m. refl)) h)))
            (λ (h : Contains high due). kept_from (λ x. is_gt (dest_cmp x.dest d)) list due h)
            (Contains-append_cases (those_at d metric) high due h))
            (Contains-append_cases low rest due c),
        λ h. is_there (dest_cmp due.dest d) refl h,
      )

  pub is_put : IsPut d metric list (with_metric d metric list)
  is_put = record { here = metric_here; others = others_stay }

  one_ordered : AreInOrder (those_at d metric)
  unfolding IsStrictlySortedBy
  one_ordered = elim metric as (λ o. AreInOrder (those_at d o)) [ None ↦ tt | Some m ↦ (tt, tt) ]

  pub ordered_with : AreInOrder list → AreInOrder (with_metric d metric list)
  ordered_with ordered =
      let low = those_before d list in
      let here = those_at d metric in
      let high = those_after d list in
      let after_here : AreBefore here high =
      each_at d metric (λ x. All (λ y. dest_cmp x.dest y.dest ≡ Less) high)
      (λ m. All-weaker (λ y. dest_cmp y.dest d ≡ Greater) (λ y. dest_cmp d y.dest ≡ Less) (λ y h. turned y.dest d h) high (after_greater d list)) in
      let after_low : AreBefore low (here ++ high) =
      All-weaker (λ x. dest_cmp x.dest d ≡ Less) (λ x. All (λ y. dest_cmp x.dest y.dest ≡ Less) (here ++ high))
      (λ x less. All-append (λ y. dest_cmp x.dest y.dest ≡ Less) here high (each_at d metric (λ y. dest_cmp x.dest y.dest ≡ Less) (λ m. less))
      (All-weaker (λ y. dest_cmp y.dest d ≡ Greater) (λ y. dest_cmp x.dest y.dest ≡ Less) (λ y h. dest_total.trans x.dest d y.dest less (turned y.dest d h)) high (after_greater d list)))
      low (before_less d list) in
      ordered_append low (here ++ high) (ordered_filter _ list ordered) (ordered_append here high one_ordered (ordered_filter _ list ordered) after_here) after_low

  pub of_kind_with : AreOfKind list → AreOfKind (with_metric d metric list)
  of_kind_with kinds =
      let IsOfKind : DueSummary → Type 0 = λ due. due.kind ≡ kind_of due.dest in
      All-append IsOfKind (those_before d list) (those_at d metric ++ those_after d list) (All-filter _ IsOfKind list kinds)
      (All-append IsOfKind (those_at d metric) (those_after d list) (each_at d metric IsOfKind (λ m. refl)) (All-filter _ IsOfKind list kinds))

-- the list with this metric is in order too, and each of its kind
pub record IsPutInOrder (d : Dest) (metric : Option ℕ) (old new : List DueSummary) : Type 0 where
  pub put : IsPut d metric old new
  pub invariant : AreInOrder new × AreOfKind new

pub put_in_order : (d : Dest) (metric : Option ℕ) (old new : List DueSummary) → AreInOrder old → AreOfKind old → new ≡ with_metric d metric old → IsPutInOrder d metric old new
put_in_order d metric old new ordered kinds e = record {
  put = subst (IsPut d metric old) (sym e) (is_put d metric old);
  invariant = (subst AreInOrder (sym e) (ordered_with d metric old ordered), subst AreOfKind (sym e) (of_kind_with d metric old kinds));
}

-- ---- what is left of a list while destinations are looked up in their order

-- it has these destinations as the list has them
pub record IsLeft (list rest : List DueSummary) (dests : List Dest) : Type 0 where
  pub in_order : AreInOrder rest
  pub of_kind : AreOfKind rest
  pub same : (d : Dest) → Contains dests d → (due : DueSummary) → due.dest ≡ d → Contains rest due ↔ Contains list due

pub all_left : (list : List DueSummary) (dests : List Dest) → AreInOrder list → AreOfKind list → IsLeft list list dests
all_left list dests in_order of_kind = record { in_order = in_order; of_kind = of_kind; same = λ d c due is. (λ h. h, λ h. h) }

-- the part after the first has the others
pub left_after : (list rest : List DueSummary) (d : Dest) (dests : List Dest) → ((e : Dest) → Contains dests e → dest_cmp d e ≡ Less) → IsLeft list rest (d ∷ dests) → IsLeft list (those_after d rest) dests
left_after list rest d dests later left = record {
  in_order = ordered_filter (λ due. is_gt (dest_cmp due.dest d)) rest left.in_order;
  of_kind = All-filter (λ due. is_gt (dest_cmp due.dest d)) (λ due. due.kind ≡ kind_of due.dest) rest left.of_kind;
  same = λ e c due is.
      let test : DueSummary → Bool = λ due. is_gt (dest_cmp due.dest d) in
      let greater : dest_cmp due.dest d ≡ Greater = ap (λ (f : Dest). dest_cmp f d) is ∙ turned_back d e (later e c) in
      let was = left.same e (later_element d e dests c) due is in (
        λ h. was.0 (kept_from test rest due h),
        λ h. kept test rest due (was.1 h) (ap is_gt greater),
      );
}
