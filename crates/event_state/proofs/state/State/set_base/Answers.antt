use Rattle.std.proofs.Common.{◌≡◌, sym, subst, ◌∙◌}
use Rattle.event_state.specs.contracts.state.State.{the_view}
use Rattle.event_state.specs.Changes.{lsas_in}
use Rattle.event_state.specs.Rolls.{since, IsBaseOf}
use Rattle.event_state.specs.States.{State, AreAreasApart}
use Rattle.event_state.specs.Steps.{opening}
use Rattle.event_state.proofs.Bases.{opens_again}
use Rattle.event_state.proofs.HeldStates.{fit_apart}
use Rattle.event_state.proofs.state.State.set_base.Goals as goal

pub returns-clause-again : goal.returns-clause-again
returns-clause-again c apart =
    let i = c.self.inside in
    let b = c.args.base in
    let now : State = record (since b (the_view i)) { journal = c.new.result.items } in
    let emptied : now ≡ since b (the_view i) = λ j. record (since b (the_view i)) { journal = c.new.ensures.items j } in
    subst (λ (s : State). AreAreasApart s.config.areas → IsBaseOf s b → now ≡ opening b s.limits) c.self.view_is
    (λ own is. emptied ∙ sym (opens_again (the_view i) b (fit_apart i.config.areas (lsas_in i.databases.items) c.self.invariant.held.kept own) is)) apart c.requires
