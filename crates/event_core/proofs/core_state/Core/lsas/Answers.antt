use Rattle.std.proofs.Common.{subst, ◌∙◌, ap}
use Rattle.std.specs.Prelude.{IfOk}
use Rattle.event_state.specs.States.{State}
use Rattle.event_state.specs.Listings.{AreLsas}
use Rattle.event_core.specs.Cores.{state_of}
use Rattle.event_core.proofs.core_state.Core.lsas.Goals as goal

pub returns : goal.returns
returns c =
    subst (λ (s : State). IfOk c.lsas.result (λ found. AreLsas s found.items)) (c.self.invariant.0.run ∙ ap state_of c.self.view_is) c.lsas.ensures
