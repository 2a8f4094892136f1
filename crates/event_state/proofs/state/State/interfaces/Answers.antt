use Rattle.std.proofs.Common.{sym, ap, ◌∙◌}
use Rattle.std.specs.FinMap.{entries}
use Rattle.event_state.specs.States.{State}
use Rattle.event_state.proofs.HeldStates.{entries-interfaces}
use Rattle.event_state.proofs.state.State.interfaces.Goals as goal

pub returns : goal.returns
returns c = c.iter.ensures.rest ∙ sym (entries-interfaces c.self.inside.interfaces c.iter.ensures.ordered) ∙ ap (λ (s : State). entries s.interfaces) c.self.view_is
