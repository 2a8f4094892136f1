-- The sources given, and those that the areas up to here give in addition.
use Rattle.std.proofs.Common.{◌≡◌, ℕ, ◌⊎◌, Some, take}
use Rattle.summaries.specs.Candidates.{IsOrdered, metric_into}
use Rattle.summaries.specs.Giving.{IsMost}
use Rattle.summaries.proofs.GivenParts.{GivenAmong}
use Rattle.summaries.proofs.giving.with_ranges.Given as goal

abbrev pub invariant-loop-area : goal.invariant-loop-area
invariant-loop-area l =
    IsOrdered l.given × ((area : ℕ) → IsMost (λ n. (metric_into l.fn.own area ≡ Some n) ⊎ GivenAmong l.inputs area l.prefix (take l.area-index l.fn.inputs.areas) n) (metric_into l.given area))
