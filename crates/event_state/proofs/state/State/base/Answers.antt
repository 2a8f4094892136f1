use Rattle.std.proofs.Common.{◌≡◌, None, subst}
use Rattle.ospf_types.specs.Configs.{config_fault_of}
use Rattle.event_state.specs.contracts.state.State.{the_view}
use Rattle.event_state.specs.Changes.{limits_in}
use Rattle.event_state.specs.Rolls.{CanBeRolled}
use Rattle.event_state.specs.States.{State}
use Rattle.event_state.proofs.Sound.{can_be_rolled}
use Rattle.event_state.proofs.state.State.base.Goals as goal

pub returns-clause-sound : goal.returns-clause-sound
returns-clause-sound c =
    let i = c.self.inside in
    let held = c.self.invariant.held in
    subst (λ (s : State). config_fault_of s.config ≡ None → CanBeRolled s) c.self.view_is
    (can_be_rolled (the_view i) (limits_in i.databases.items) held.kept held.limited held.within c.self.invariant.interfaces)
