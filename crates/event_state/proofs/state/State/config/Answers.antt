use Rattle.std.proofs.Common.{subst}
use Rattle.event_state.specs.Changes.{lsas_in}
use Rattle.event_state.specs.States.{State, AreAreasApart}
use Rattle.event_state.specs.Held.{AreFit}
use Rattle.event_state.proofs.HeldStates.{fit_apart}
use Rattle.event_state.proofs.state.State.config.Goals as goal

pub returns-clause-fit : goal.returns-clause-fit
returns-clause-fit c = subst (λ (s : State). AreAreasApart s.config.areas → AreFit s.config.areas s.databases) c.self.view_is (fit_apart c.self.inside.config.areas (lsas_in c.self.inside.databases.items) c.self.invariant.held.kept)
