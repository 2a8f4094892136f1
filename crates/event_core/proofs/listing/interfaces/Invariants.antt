use Rattle.std.proofs.Common.{◌≡◌, ◌++◌}
use Rattle.std.specs.FinMap.{entries}
use Rattle.event_core.proofs.listing.interfaces.Given as goal

-- what was listed, and what is left, is all
abbrev pub invariant-loop-id : goal.invariant-loop-id
invariant-loop-id l = l.list ++ l.id-iterator ≡ entries l.fn.state.interfaces
