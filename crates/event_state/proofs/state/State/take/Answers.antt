use Rattle.std.proofs.Common.{◌≡◌, false, subst}
use Rattle.std.specs.Prelude.{◌↔◌}
use Rattle.event_state.specs.contracts.state.State.{the_view}
use Rattle.event_state.specs.States.{State, LooksAlike}
use Rattle.event_state.specs.Steps.{changed_by}
use Rattle.event_state.proofs.Looks.{looks_journal}
use Rattle.event_state.proofs.state.State.take.Goals as goal

pub returns-in-Ok-clause-changed : goal.returns-in-Ok-clause-changed
returns-in-Ok-clause-changed c =
    let journal = looks_journal (the_view c.self.inside) c.push.new.self.items c.args.event in
    let told = c.in-Ok.ensures.changed in
    subst (λ (s : State). (c.in-Ok.changed ≡ false) ↔ LooksAlike s (changed_by s c.args.event)) c.self.view_is
    (λ e. journal.0 (told.0 e), λ looks. told.1 (journal.1 looks))
