-- No area up to here is another one.
use Rattle.std.proofs.Common.{◌≢◌, take}
use Rattle.active_ranges.proofs.Searching.{HasNone}
use Rattle.summaries.proofs.giving.has_other_active_area.Given as goal

abbrev pub invariant-loop-another : goal.invariant-loop-another
invariant-loop-another l = HasNone (λ another. another ≢ l.area) (take l.another-index l.active)
