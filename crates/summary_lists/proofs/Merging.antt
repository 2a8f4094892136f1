-- Changes in one pass: what is done, and what is left of the list and of the changes.
use Rattle.std.proofs.Common.{◌≡◌, ℕ, ◌+◌, ◌<◌, List, ◌∷◌, ◌++◌, length, drop, get_or, Option, sym, ap, subst, ◌∙◌, append_assoc}
use Rattle.std.specs.declared.cmp.Ordering.TheVariants.{Less}
use Rattle.std.specs.Ordering.{is_lt, is_gt}
use Rattle.std.specs.List.{All}
use Rattle.std.specs.Map.{keys_of}
use Rattle.std.proofs.lemmas.List.Elements.{All-head, All-tail, All-append, All-weaker, filter-append}
use Rattle.ospf_types.specs.declared.key.Dest.{Dest}
use Rattle.ospf_types.specs.Keys.{dest_cmp}
use Rattle.ospf_types.proofs.Orders.{dest_total}
use Rattle.summary_lists.specs.declared.due.DueSummary.{DueSummary}
use Rattle.summary_lists.specs.Lists.{Metrics, AreInOrder, AreOfKind}
use Rattle.summary_lists.specs.Places.{those_before, those_at, those_after, with_metric}
use Rattle.summary_lists.proofs.Parts.{before_less, each_at, all_before, is_put, ordered_with, of_kind_with}
use Rattle.summary_lists.proofs.Changing.{AreLeft, next_left, below_left, left_at}

-- it is before each destination of the changes
abbrev pub IsBelow : Metrics → Dest → Type 0
IsBelow left d = All (λ e. dest_cmp d e ≡ Less) (keys_of left)

pub record IsMerging (all : Metrics) (old : List DueSummary) (left : Metrics) (done rest : List DueSummary) : Type 0 where
  pub changes : AreLeft all old left (done ++ rest)
  pub in_order : AreInOrder (done ++ rest)
  pub of_kind : AreOfKind (done ++ rest)
  pub below : All (λ due. IsBelow left due.dest) done

module _ (all : Metrics) (old : List DueSummary) (d : Dest) (metric : Option ℕ) (left : Metrics) (done rest : List DueSummary) (h : IsMerging all old ((d, metric) ∷ left) done rest) where
  done_less : All (λ due. dest_cmp due.dest d ≡ Less) done
  done_less = All-weaker (λ due. IsBelow ((d, metric) ∷ left) due.dest) (λ due. dest_cmp due.dest d ≡ Less) (λ due below. All-head (λ e. dest_cmp due.dest e ≡ Less) d (keys_of left) below) done h.below

  -- what is done then, and what is left, is the list with this change
  with_change : ((done ++ those_before d rest) ++ those_at d metric) ++ those_after d rest ≡ with_metric d metric (done ++ rest)
  with_change =
      let low = those_before d rest in
      let here = those_at d metric in
      let high = those_after d rest in
      let cut = all_before d done done_less in
      let lower : those_before d (done ++ rest) ≡ done ++ low = filter-append (λ due. is_lt (dest_cmp due.dest d)) done rest ∙ ap (λ (xs : List DueSummary). xs ++ low) cut.0 in
      let upper : those_after d (done ++ rest) ≡ high = filter-append (λ due. is_gt (dest_cmp due.dest d)) done rest ∙ ap (λ (xs : List DueSummary). xs ++ high) cut.1 in
      append_assoc (done ++ low) here high ∙ (λ i. sym lower i ++ (here ++ sym upper i))

  pub merging_next : IsMerging all old left ((done ++ those_before d rest) ++ those_at d metric) (those_after d rest)
  merging_next =
      let low = those_before d rest in
      let here = those_at d metric in
      let now = done ++ rest in
      let first = below_left d metric left h.changes.in_order in
      let low_below : All (λ due. IsBelow left due.dest) low =
      All-weaker (λ due. dest_cmp due.dest d ≡ Less) (λ due. IsBelow left due.dest)
      (λ due less. All-weaker (λ e. dest_cmp d e ≡ Less) (λ e. dest_cmp due.dest e ≡ Less) (λ e more. dest_total.trans due.dest d e less more) (keys_of left) first)
      low (before_less d rest) in
      let done_below : All (λ due. IsBelow left due.dest) done =
      All-weaker (λ due. IsBelow ((d, metric) ∷ left) due.dest) (λ due. IsBelow left due.dest) (λ due below. All-tail (λ e. dest_cmp due.dest e ≡ Less) d (keys_of left) below) done h.below in
      record {
        changes = subst (λ (list : List DueSummary). AreLeft all old left list) (sym with_change) (next_left all old d metric left now (with_metric d metric now) (is_put d metric now) h.changes);
        in_order = subst AreInOrder (sym with_change) (ordered_with d metric now h.in_order);
        of_kind = subst AreOfKind (sym with_change) (of_kind_with d metric now h.of_kind);
        below = All-append (λ due. IsBelow left due.dest) (done ++ low) here (All-append (λ due. IsBelow left due.dest) done low done_below low_below) (each_at d metric (λ due. IsBelow left due.dest) (λ m. first));
      }

-- a change at a place
pub merging_at : (all : Metrics) (old : List DueSummary) (i : ℕ) (done rest pushed after next : List DueSummary) (x : Dest × Option ℕ) → i < length all → x ≡ get_or all i x
    → pushed ≡ done ++ those_before x.0 rest → after ≡ those_after x.0 rest → next ≡ pushed ++ those_at x.0 x.1
    → IsMerging all old (drop i all) done rest → IsMerging all old (drop (i + 1) all) next after
merging_at all old i done rest pushed after next x lt is before later here h =
    let left = drop (i + 1) all in
    let step = merging_next all old x.0 x.1 left done rest (subst (λ (left : Metrics). IsMerging all old left done rest) (left_at all i x lt is) h) in
    let made : next ≡ (done ++ those_before x.0 rest) ++ those_at x.0 x.1 = here ∙ ap (λ (xs : List DueSummary). xs ++ those_at x.0 x.1) before in
    subst (λ (xs : List DueSummary). IsMerging all old left xs after) (sym made) (subst (λ (xs : List DueSummary). IsMerging all old left ((done ++ those_before x.0 rest) ++ those_at x.0 x.1) xs) (sym later) step)
