use Rattle.std.proofs.Common.{◌≡◌, false, refl, sym, subst}
use Rattle.std.specs.Prelude.{IfOk, ◌↔◌}
use Rattle.event_state.specs.contracts.state.State.{the_view}
use Rattle.event_state.specs.declared.event.Event.TheVariants as event
use Rattle.event_state.specs.States.{State, LooksAlike}
use Rattle.event_state.specs.Steps.{IsAccepted, with_interface}
use Rattle.event_state.proofs.Filling.{interfaces_after}
use Rattle.event_state.proofs.Looks.{interface_looks}
use Rattle.event_state.proofs.state.State.set_interface.Goals as goal

pub invariant_of-self : goal.invariant_of-self
invariant_of-self c =
    let x = c.args.interface in
    let s = the_view c.self.inside in
    let taken = subst (λ (t : State). IsAccepted t (event.Interface c.args.id x.area x.address x.peer x.up)) (sym c.self.view_is) c.requires in
    record {
      held = c.self.invariant.held;
      interfaces = interfaces_after s c.args.id x taken c.self.invariant.interfaces c.put_interface.result c.self.inside.interfaces c.put_interface.new.interfaces refl c.put_interface.ensures.unchanged c.put_interface.ensures.done;
      serial = c.self.invariant.serial;
    }

pub returns-clause-changed : goal.returns-clause-changed
returns-clause-changed c =
    subst (λ (s : State). IfOk c.put_interface.result (λ changed. (changed ≡ false) ↔ LooksAlike s (with_interface s c.args.id c.args.interface))) c.self.view_is
    (interface_looks (the_view c.self.inside) c.put_interface.result c.args.id c.args.interface c.put_interface.ensures.changed)
