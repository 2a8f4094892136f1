use Rattle.std.proofs.Common.{◌≡◌, [], take}
use Rattle.summaries.specs.Inputs.{SummaryInputsValue}
use Rattle.summaries.specs.DueSummaries.{AreListsOf}
use Rattle.summaries.proofs.summaries.DueSummaries.none.Given as goal

abbrev pub invariant-loop-area : goal.invariant-loop-area
invariant-loop-area l = (v : SummaryInputsValue) → v.active ≡ [] → AreListsOf v (take l.area-index l.areas) l.lists.items
