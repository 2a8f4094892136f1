use Rattle.std.proofs.Common.{◌≡◌, sym, subst}
use Rattle.std.specs.List.Sorted.{IsStrictlySortedBy}
use Rattle.std.proofs.lemmas.List.Elements.{All-nil}
use Rattle.summary_lists.specs.declared.due.DueSummary.{DueSummary}
use Rattle.summary_lists.specs.Lists.{AreInOrder, AreOfKind, kind_of}
use Rattle.summary_lists.proofs.list.AreaSummaries.none.Goals as goal

pub invariant_of-result : goal.invariant_of-result
unfolding IsStrictlySortedBy
invariant_of-result c = (subst AreInOrder (sym c.new.ensures.items) tt, subst AreOfKind (sym c.new.ensures.items) (All-nil (λ (due : DueSummary). due.kind ≡ kind_of due.dest)))
