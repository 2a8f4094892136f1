use Rattle.std.proofs.Common.{◌≡◌, false, List, Some, None, get_or, subst, sym, refl, ap, ◌∙◌}
use Rattle.std.specs.Prelude.{◌↔◌}
use Rattle.std.specs.FinMap.{empty, get, remove}
use Rattle.ospf_types.specs.declared.config.AreaConfig.{AreaConfig}
use Rattle.lsdb.specs.Databases.{Database, DatabaseValue, purge_refusal_of}
use Rattle.event_state.specs.contracts.state.State.{the_view}
use Rattle.event_state.specs.declared.event.Event.TheVariants as event
use Rattle.event_state.specs.Changes.{no_database, lsas_in}
use Rattle.event_state.specs.States.{State, LooksAlike, place_of}
use Rattle.event_state.specs.Steps.{changed_by, IsAccepted}
use Rattle.event_state.proofs.Accepted.{purge_allowed}
use Rattle.event_state.proofs.Carried.{allowed_at, place_held, held_after}
use Rattle.event_state.proofs.HeldStates.{fit_remove}
use Rattle.event_state.proofs.Looks.{looks_change, purge_alike}
use Rattle.event_state.proofs.Sizes.{remove_small}
use Rattle.event_state.proofs.state.State.purge.Goals as goal

pub purge_at-requires-clause-allowed : goal.purge_at-requires-clause-allowed
purge_at-requires-clause-allowed c =
    let i = c.self.inside in
    let s = the_view i in
    let place : place_of i.config.areas c.args.scope ≡ Some c.in-Some.place = ap (λ (areas : List AreaConfig). place_of areas c.args.scope) (sym c.as_slice.ensures) ∙ sym c.place_of.ensures ∙ c.in-Some.is in
    let taken = subst (λ (t : State). IsAccepted t (event.Purge c.args.scope c.args.key)) (sym c.self.view_is) c.requires in
    subst (λ (ds : List DatabaseValue). purge_refusal_of (get (get_or ds c.in-Some.place no_database).lsas c.args.key) ≡ None) (sym c.as_mut_slice.ensures.value)
    (allowed_at i.databases.items c.in-Some.place c.args.key (purge_allowed s c.args.scope c.in-Some.place place c.args.key taken))

pub invariant_of-self : goal.invariant_of-self
invariant_of-self c =
    let i = c.self.inside in
    let place : place_of i.config.areas c.args.scope ≡ Some c.in-Some.place = ap (λ (areas : List AreaConfig). place_of areas c.args.scope) (sym c.as_slice.ensures) ∙ sym c.place_of.ensures ∙ c.in-Some.is in
    let done = rw c.as_mut_slice.ensures.value at c.purge_at.ensures in
    record {
      held = held_after i.config i.limits i.databases c.purge_at.new.databases c.args.scope c.in-Some.place (λ (d : Database). remove d c.args.key) c.self.invariant.held place
          (λ fit. fit_remove c.args.scope _ c.args.key fit) (remove_small _ _ c.args.key (c.self.invariant.held.within c.in-Some.place)) done;
      interfaces = c.self.invariant.interfaces;
      serial = c.self.invariant.serial;
    }

pub returns-in-Some-clause-changed : goal.returns-in-Some-clause-changed
returns-in-Some-clause-changed c =
    let i = c.self.inside in
    let s = the_view i in
    let k = c.in-Some.place in
    let place : place_of i.config.areas c.args.scope ≡ Some k = ap (λ (areas : List AreaConfig). place_of areas c.args.scope) (sym c.as_slice.ensures) ∙ sym c.place_of.ensures ∙ c.in-Some.is in
    let lt = place_held i.config i.limits i.databases.items c.args.scope k c.self.invariant.held place in
    let taken = subst (λ (t : State). IsAccepted t (event.Purge c.args.scope c.args.key)) (sym c.self.view_is) c.requires in
    let alike = purge_alike (get_or (lsas_in i.databases.items) k empty) c.args.key (purge_allowed s c.args.scope k place c.args.key taken) in
    let looks = looks_change s c.args.scope k place lt (λ (d : Database). remove d c.args.key) in
    subst (λ (s : State). (false ≡ false) ↔ LooksAlike s (changed_by s (event.Purge c.args.scope c.args.key))) c.self.view_is
    (λ e. looks.0 alike, λ t. refl)
