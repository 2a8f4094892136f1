-- No range up to here has the prefix.
use Rattle.std.proofs.Common.{◌≡◌, take}
use Rattle.active_ranges.proofs.Searching.{HasNone}
use Rattle.due_explanation.proofs.area_ranges.has_range.Given as goal

abbrev pub invariant-loop-range : goal.invariant-loop-range
invariant-loop-range l = HasNone (λ r. r.prefix ≡ l.prefix) (take l.range-index l.range-items)
