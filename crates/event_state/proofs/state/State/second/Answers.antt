use Rattle.std.proofs.Common.{◌≡◌, false, All, map, length, subst, sym, ap, ◌∙◌}
use Rattle.std.specs.Prelude.{◌↔◌}
use Rattle.std.specs.Vec.{with_items}
use Rattle.std.proofs.lemmas.List.{length-map}
use Rattle.lsdb.specs.Databases.{DatabaseValue, all_aged}
use Rattle.lsdb.specs.Contents.{NoneComes}
use Rattle.event_state.specs.contracts.state.State.{the_view}
use Rattle.event_state.specs.declared.event.Event.TheVariants as event
use Rattle.event_state.specs.Changes.{aged_value, lsas_in}
use Rattle.event_state.specs.States.{State, LooksAlike}
use Rattle.event_state.specs.Steps.{changed_by}
use Rattle.event_state.specs.Held.{IsHeld}
use Rattle.event_state.proofs.HeldStates.{held_later, lsas_later}
use Rattle.event_state.proofs.InPlace.{items_of_slice}
use Rattle.event_state.proofs.Looks.{looks_later, none_in}
use Rattle.event_state.proofs.state.State.second.Goals as goal

pub invariant_of-self : goal.invariant_of-self
invariant_of-self c =
    let i = c.self.inside in
    let new = c.age_all.new.databases in
    let e : new ≡ map aged_value i.databases.items = c.age_all.ensures.done ∙ ap (map aged_value) c.as_mut_slice.ensures.value in
    let is : (with_items i.databases new).items ≡ map aged_value i.databases.items = items_of_slice i.databases new (ap length e ∙ length-map i.databases.items aged_value) ∙ e in
    record {
      held = subst (IsHeld i.config i.limits) (sym is) (held_later i.config i.limits i.databases.items c.self.invariant.held);
      interfaces = c.self.invariant.interfaces;
      serial = c.self.invariant.serial;
    }

pub returns-clause-done : goal.returns-clause-done
returns-clause-done c =
    let i = c.self.inside in
    let new = c.age_all.new.databases in
    let e : new ≡ map aged_value i.databases.items = c.age_all.ensures.done ∙ ap (map aged_value) c.as_mut_slice.ensures.value in
    let is : (with_items i.databases new).items ≡ map aged_value i.databases.items = items_of_slice i.databases new (ap length e ∙ length-map i.databases.items aged_value) ∙ e in
    let lsas = ap lsas_in is ∙ lsas_later i.databases.items in
    (λ j. record (the_view i) { databases = lsas j }) ∙ ap (λ (s : State). record s { databases = map all_aged s.databases }) c.self.view_is

pub returns-clause-changed : goal.returns-clause-changed
returns-clause-changed c =
    let i = c.self.inside in
    let told : (c.age_all.result ≡ false) ↔ All (λ (d : DatabaseValue). NoneComes d.lsas) i.databases.items = rw c.as_mut_slice.ensures.value at c.age_all.ensures.changed in
    let looks = looks_later (the_view i) c.self.invariant.held.kept in
    let none = none_in i.databases.items in
    subst (λ (s : State). (c.age_all.result ≡ false) ↔ LooksAlike s (changed_by s event.Second)) c.self.view_is
    (λ e. looks.0 (none.0 (told.0 e)), λ t. told.1 (none.1 (looks.1 t)))
