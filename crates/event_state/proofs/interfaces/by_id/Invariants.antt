use Rattle.std.proofs.Common.{◌≡◌, take}
use Rattle.event_state.specs.Bases.{interfaces_in}
use Rattle.event_state.specs.States.{interfaces_of}
use Rattle.event_state.proofs.interfaces.by_id.Given as goal

abbrev pub invariant-loop-id : goal.invariant-loop-id
invariant-loop-id l = interfaces_of l.tree ≡ interfaces_in (take l.id-index l.interfaces)
