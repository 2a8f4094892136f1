-- Where a destination is in the list of an area, and what its list is with another metric of it.
use Rattle.std.specs.Prelude.{ℕ, ◌≡◌, ◌+◌, ◌<◌, ◌≤◌, List, [], ◌∷◌, ◌++◌, filter, Option, Some, None, length, take, drop, slice_index_or}
use Rattle.std.specs.Ordering.{is_lt, is_gt}
use Rattle.ospf_types.specs.declared.key.Dest.{Dest}
use Rattle.ospf_types.specs.Keys.{dest_cmp}
use Rattle.summary_lists.specs.declared.due.DueSummary.{DueSummary}
use Rattle.summary_lists.specs.Lists.{due_for}

abbrev pub those_before : Dest → List DueSummary → List DueSummary
those_before d list = filter (λ due. is_lt (dest_cmp due.dest d)) list

abbrev pub those_after : Dest → List DueSummary → List DueSummary
those_after d list = filter (λ due. is_gt (dest_cmp due.dest d)) list

-- what is due to the destination at this metric; nothing for none
abbrev pub those_at : Dest → Option ℕ → List DueSummary
those_at d None = []
those_at d (Some metric) = due_for d metric ∷ []

-- the list, with this destination at that metric
abbrev pub with_metric : Dest → Option ℕ → List DueSummary → List DueSummary
with_metric d metric list = those_before d list ++ (those_at d metric ++ those_after d list)

-- it is at this place
pub record IsSummaryAt (list : List DueSummary) (d : Dest) (at : ℕ) : Type 0 where
  pub in_range : at < length list
  pub before : take at list ≡ those_before d list
  pub here : (due : DueSummary) → (slice_index_or list at due).dest ≡ d
  pub after : drop (at + 1) list ≡ those_after d list

-- it is not there, and would go to this place
pub record IsGapFor (list : List DueSummary) (d : Dest) (at : ℕ) : Type 0 where
  pub in_range : at ≤ length list
  pub before : take at list ≡ those_before d list
  pub after : drop at list ≡ those_after d list
