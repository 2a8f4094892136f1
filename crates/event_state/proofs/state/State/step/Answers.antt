use Rattle.std.proofs.Common.{sym, ◌∙◌}
use Rattle.event_state.proofs.Accepted.{accepted, serial_left}
use Rattle.event_state.proofs.state.State.step.Goals as goal

pub take-requires-clause-accepted : goal.take-requires-clause-accepted
take-requires-clause-accepted c = accepted c.args.self.now c.args.event (sym c.refusal.ensures ∙ c.in_default.is)

pub take-requires-clause-room : goal.take-requires-clause-room
take-requires-clause-room c = serial_left c.args.self.now c.args.event (sym c.refusal.ensures ∙ c.in_default.is)
