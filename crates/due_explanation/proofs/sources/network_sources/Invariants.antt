use Rattle.due_explanation.proofs.Listing.{Completes}
use Rattle.due_explanation.proofs.sources.network_sources.Given as goal

abbrev pub invariant-loop-area : goal.invariant-loop-area
invariant-loop-area l = Completes l.inputs l.network l.area-items l.area-index l.initial.sources.items l.sources.items
