use Rattle.event_state.proofs.Naming.{AreListedTo}
use Rattle.event_state.proofs.state.State.coming.Given as goal

abbrev pub invariant-loop-area : goal.invariant-loop-area
invariant-loop-area l = AreListedTo l.named.items l.self l.area-index
