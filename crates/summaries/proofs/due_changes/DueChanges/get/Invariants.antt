use Rattle.std.proofs.Common.{◌≡◌, drop}
use Rattle.summaries.specs.Carrying.{changes_of}
use Rattle.summaries.specs.DueSummaries.{changes_in}
use Rattle.summaries.proofs.due_changes.DueChanges.get.Given as goal

abbrev pub invariant-loop-plan : goal.invariant-loop-plan
invariant-loop-plan l = changes_in (changes_of (drop l.plan-index l.plan-items)) l.area ≡ changes_in (changes_of l.plan-items) l.area
