-- The list of an area after each edit.
use Rattle.std.proofs.Common.{◌≡◌, ℕ, List, set, Option, Some, None, sym, ap, subst, ◌∙◌}
use Rattle.std.specs.List.{insert, remove}
use Rattle.ospf_types.specs.declared.key.Dest.{Dest}
use Rattle.summary_lists.specs.declared.due.DueSummary.{DueSummary}
use Rattle.summary_lists.specs.Lists.{due_for, AreInOrder, AreOfKind}
use Rattle.summary_lists.specs.Places.{with_metric, IsSummaryAt, IsGapFor}
use Rattle.summary_lists.proofs.Parts.{IsPutInOrder, put_in_order}
use Rattle.summary_lists.proofs.Placing.{set_with, remove_with, insert_with, absent_with}

-- items is the list as it is kept
module _ (items list : List DueSummary) (same : items ≡ list) (invariant : AreInOrder items × AreOfKind items) (d : Dest) where
  put_as : (metric : Option ℕ) (new : List DueSummary) → new ≡ with_metric d metric list → IsPutInOrder d metric list new
  put_as metric new e = put_in_order d metric list new (subst AreInOrder same invariant.0) (subst AreOfKind same invariant.1) e

  pub removed : (metric : Option ℕ) → metric ≡ None → (at : ℕ) → IsSummaryAt list d at → (new : List DueSummary) → new ≡ remove items at → IsPutInOrder d metric list new
  removed metric none at place new e =
      put_as metric new (e ∙ ap (λ (xs : List DueSummary). remove xs at) same ∙ remove_with list d at place ∙ ap (λ (o : Option ℕ). with_metric d o list) (sym none))

  pub stayed : (metric : Option ℕ) → metric ≡ None → (at : ℕ) → IsGapFor list d at → IsPutInOrder d metric list list
  stayed metric none at gap = put_as metric list (absent_with list d at gap ∙ ap (λ (o : Option ℕ). with_metric d o list) (sym none))

  pub written : (metric : Option ℕ) (m : ℕ) → metric ≡ Some m → (due : DueSummary) → due ≡ due_for d m → (at : ℕ) → IsSummaryAt list d at → IsPutInOrder d metric list (set items at due)
  written metric m some due is at place =
      put_as metric (set items at due)
      (ap (λ (xs : List DueSummary). set xs at due) same ∙ set_with list d at place due (ap (λ (x : DueSummary). x.dest) is) (ap (λ (x : DueSummary). x.kind) is)
      ∙ ap (λ (x : DueSummary). with_metric d (Some x.metric) list) is ∙ ap (λ (o : Option ℕ). with_metric d o list) (sym some))

  pub inserted : (metric : Option ℕ) (m : ℕ) → metric ≡ Some m → (due : DueSummary) → due ≡ due_for d m → (at : ℕ) → IsGapFor list d at → (new : List DueSummary) → new ≡ insert items at due → IsPutInOrder d metric list new
  inserted metric m some due is at gap new e =
      put_as metric new
      (e ∙ (λ i. insert (same i) at (is i)) ∙ insert_with list d at gap m ∙ ap (λ (o : Option ℕ). with_metric d o list) (sym some))
