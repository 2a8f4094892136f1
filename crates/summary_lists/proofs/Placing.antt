-- The result of a search by destination in a list in order, and the effect of an edit at that place
-- on it.
use Rattle.std.proofs.Common.{◌≡◌, ℕ, zero, suc, ◌+◌, ◌<◌, ◌≤◌, List, [], ◌∷◌, ◌++◌, map, length, take, drop, get_or, set, Some, None, Result, Ok, Err, IfOk, IfErr, sym, ap, subst, ◌∙◌, add-one, arith}
use Rattle.std.specs.declared.cmp.Ordering.TheVariants.{Less, Equal, Greater}
use Rattle.std.specs.Ordering.{is_lt, ordering_index}
use Rattle.std.specs.List.{insert, remove, slice_get}
use Rattle.std.specs.List.Sorted.{IsSearchInRange, IsBinarySearchResult, IsNonDecreasingBy, IsPartitionPoint}
use Rattle.std.proofs.lemmas.List.{get_or-map, length-map, get_or-take, get_or-drop, length-take, length-drop, take-append-drop, drop_more, set_split}
use Rattle.std.proofs.lemmas.List.Elements.{All-cons, All-nil, All-get_or}
use Rattle.std.proofs.lemmas.List.Sorted.{searchable_from_sorted}
use Rattle.std.proofs.lemmas.Map.Keys.{Less-from_sorted}
use Rattle.std.proofs.lemmas.Option.{get_or_from_slice_get, slice_get_within}
use Rattle.ospf_types.specs.declared.key.Dest.{Dest}
use Rattle.ospf_types.specs.Keys.{dest_cmp}
use Rattle.ospf_types.proofs.Orders.{dest_total, dest_exact}
use Rattle.summary_lists.specs.declared.due.DueSummary.{DueSummary}
use Rattle.summary_lists.specs.Lists.{due_for, kind_of, AreInOrder, AreOfKind}
use Rattle.summary_lists.specs.Places.{those_before, those_after, with_metric, IsSummaryAt, IsGapFor}
use Rattle.summary_lists.proofs.Parts.{turned, turned_back, parted, AreAll}

less_at : (list : List DueSummary) → AreInOrder list → (i j : ℕ) (e : DueSummary) → i < j → j < length list → dest_cmp (get_or list i e).dest (get_or list j e).dest ≡ Less
less_at list ordered i j e lt in_range =
    let dest : DueSummary → Dest = λ due. due.dest in
    let first = get_or-map dest list i e e.dest (omega arith) in
    let second = get_or-map dest list j e e.dest in_range in
    (λ k. dest_cmp (sym first k) (sym second k)) ∙ Less-from_sorted dest_cmp (map dest list) i j e.dest ordered lt (omega (arith, length-map list dest))

module _ (list : List DueSummary) (ordered : AreInOrder list) (d : Dest) where
  searchable : IsNonDecreasingBy (λ due. ordering_index (dest_cmp due.dest d)) list
  searchable = searchable_from_sorted dest_total (λ due. due.dest) list d (λ k e low high. ap is_lt (turned_back (get_or list k e).dest (get_or list (k + 1) e).dest (less_at list ordered k (k + 1) e (omega arith) high)))

  pub is_at : (at : ℕ) → at < length list → ((e : DueSummary) → dest_cmp (get_or list at e).dest d ≡ Equal) → IsSummaryAt list d at
  is_at at in_range equal =
      let here : (e : DueSummary) → (get_or list at e).dest ≡ d = λ e. dest_exact _ _ (equal e) in
      let some = due_for d 0 in
      let x = get_or list at some in
      let low = take at list in
      let high = drop (at + 1) list in
      let less : AreAll d Less low = λ k e lt.
      let below : k < at = omega (arith, length-take at list) in
      ap (λ (due : DueSummary). dest_cmp due.dest d) (get_or-take at list k e below) ∙ ap (λ (other : Dest). dest_cmp (get_or list k e).dest other) (sym (here e)) ∙ less_at list ordered k at e below in_range in
      let greater : AreAll d Greater high = λ k e lt.
      let within : at + 1 + k < length list = omega (arith, length-drop (at + 1) list) in
      ap (λ (due : DueSummary). dest_cmp due.dest d) (get_or-drop (at + 1) list k e) ∙ ap (λ (other : Dest). dest_cmp (get_or list (at + 1 + k) e).dest other) (sym (here e))
      ∙ turned_back (get_or list at e).dest _ (less_at list ordered at (at + 1 + k) e (omega arith) within) in
      let whole : low ++ (x ∷ [] ++ high) ≡ list = ap (λ (ys : List DueSummary). low ++ ys) (sym (drop_more list at some in_range)) ∙ take-append-drop at list in
      let parts = parted d low (x ∷ []) high less (All-cons (λ due. dest_cmp due.dest d ≡ Equal) x [] (equal some) (All-nil (λ due. dest_cmp due.dest d ≡ Equal))) greater in
      record {
        in_range = in_range;
        before = sym parts.0 ∙ ap (those_before d) whole;
        here = here;
        after = sym parts.1 ∙ ap (those_after d) whole;
      }

  is_gap : (at : ℕ) → at ≤ length list → IsPartitionPoint (λ due. dest_cmp due.dest d ≡ Less) (λ due. dest_cmp due.dest d ≡ Greater) list at → IsGapFor list d at
  is_gap at in_range split =
      let low = take at list in
      let high = drop at list in
      let less : AreAll d Less low = λ k e lt.
      let below : k < at = omega (arith, length-take at list) in
      ap (λ (due : DueSummary). dest_cmp due.dest d) (get_or-take at list k e below) ∙ split.0 k e (omega arith) below in
      let greater : AreAll d Greater high = λ k e lt.
      let within : at + k < length list = omega (arith, length-drop at list) in
      ap (λ (due : DueSummary). dest_cmp due.dest d) (get_or-drop at list k e) ∙ split.1 (at + k) e (omega arith) within in
      let whole : low ++ ([] ++ high) ≡ list = take-append-drop at list in
      let parts = parted d low [] high less (All-nil (λ due. dest_cmp due.dest d ≡ Equal)) greater in
      record {
        in_range = in_range;
        before = sym parts.0 ∙ ap (those_before d) whole;
        after = sym parts.1 ∙ ap (those_after d) whole;
      }

  module _ (first : DueSummary) (stands : slice_get list 0 ≡ Some first) where
    read : (e : DueSummary) → get_or list 0 e ≡ first
    read e = get_or_from_slice_get list 0 first e stands

    -- the first of the list is the destination
    pub is_first : dest_cmp first.dest d ≡ Equal → IsSummaryAt list d 0
    is_first equal = is_at 0 (slice_get_within list 0 first stands) (λ e. ap (λ (due : DueSummary). dest_cmp due.dest d) (read e) ∙ equal)

    -- or it comes after the destination, and so do the others
    pub is_past : dest_cmp first.dest d ≡ Greater → IsGapFor list d 0
    is_past greater = is_gap 0 (omega arith) (λ k e low high. absurd (omega (arith, high)), λ k e low high. later e k high)
      where
        later : (e : DueSummary) (k : ℕ) → k < length list → dest_cmp (get_or list k e).dest d ≡ Greater
        later e zero high = ap (λ (due : DueSummary). dest_cmp due.dest d) (read e) ∙ greater
        later e (suc k) high =
            let other : Dest = (get_or list (suc k) e).dest in
            let more : dest_cmp first.dest other ≡ Less = ap (λ (due : DueSummary). dest_cmp due.dest other) (sym (read e)) ∙ less_at list ordered 0 (suc k) e (omega arith) high in
            turned_back d other (dest_total.trans d first.dest other (turned first.dest d greater) more)

  -- a search by destination ends at it, or where it would go
  pub searched : (r : Result ℕ ℕ) → IsSearchInRange r (length list) → IsBinarySearchResult (λ due. dest_cmp due.dest d) list r → record { found : IfOk r (IsSummaryAt list d); absent : IfErr r (IsGapFor list d) }
  searched (Ok at) in_range equal = record { found = is_at at in_range equal; absent = tt }
  searched (Err at) in_range split = record { found = tt; absent = is_gap at in_range (split searchable) }

module _ (list : List DueSummary) (d : Dest) (at : ℕ) (place : IsSummaryAt list d at) where
  after_it : drop (suc at) list ≡ those_after d list
  after_it = subst (λ (n : ℕ). drop n list ≡ those_after d list) (add-one at) place.after

  -- what is there, at another metric
  pub set_with : (due : DueSummary) → due.dest ≡ d → due.kind ≡ kind_of d → set list at due ≡ with_metric d (Some due.metric) list
  set_with due dest kind =
      let same : due ≡ due_for d due.metric = λ i. record { kind = kind i; dest = dest i; metric = due.metric } in
      set_split list at due place.in_range ∙ (λ i. place.before i ++ same i ∷ after_it i)

  pub found_with : AreOfKind list → (e : DueSummary) → list ≡ with_metric d (Some (get_or list at e).metric) list
  found_with kinds e =
      let x = get_or list at e in
      let kind : x.kind ≡ kind_of d = All-get_or (λ due. due.kind ≡ kind_of due.dest) list at e place.in_range kinds ∙ ap kind_of (place.here e) in
      let same : x ≡ due_for d x.metric = λ i. record { kind = kind i; dest = place.here e i; metric = x.metric } in
      sym (take-append-drop at list) ∙ ap (λ (ys : List DueSummary). take at list ++ ys) (drop_more list at e place.in_range) ∙ (λ i. place.before i ++ same i ∷ place.after i)

  pub remove_with : remove list at ≡ with_metric d None list
  remove_with = λ i. place.before i ++ after_it i

module _ (list : List DueSummary) (d : Dest) (at : ℕ) (gap : IsGapFor list d at) where
  pub insert_with : (m : ℕ) → insert list at (due_for d m) ≡ with_metric d (Some m) list
  insert_with m = λ i. gap.before i ++ due_for d m ∷ gap.after i

  pub absent_with : list ≡ with_metric d None list
  absent_with = sym (take-append-drop at list) ∙ (λ i. gap.before i ++ gap.after i)
