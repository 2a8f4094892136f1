use Rattle.std.proofs.Common.{sym, ap, ◌∙◌}
use Rattle.std.specs.FinMap.{entries}
use Rattle.std.specs.List.{list_any}
use Rattle.event_state.specs.States.{State}
use Rattle.event_state.specs.Steps.{has_address}
use Rattle.event_state.proofs.HeldStates.{entries-interfaces}
use Rattle.event_state.proofs.state.State.is_taken.Goals as goal

pub returns : goal.returns
returns c =
    let any = list_any (has_address c.args.id c.args.address) in
    c.is_address_taken.ensures.value ∙ ap any (sym (entries-interfaces c.self.inside.interfaces c.is_address_taken.ensures.in_order)) ∙ ap (λ (s : State). any (entries s.interfaces)) c.self.view_is
