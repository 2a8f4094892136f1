use Rattle.std.proofs.Common.{◌≡◌, false, List, Some, None, get_or, subst, sym, ap, ◌∙◌}
use Rattle.std.specs.Prelude.{◌↔◌}
use Rattle.std.specs.FinMap.{empty}
use Rattle.ospf_types.specs.declared.config.AreaConfig.{AreaConfig}
use Rattle.lsdb.specs.Databases.{Database, aged_out}
use Rattle.lsdb.specs.Contents.{used_at}
use Rattle.event_state.specs.contracts.state.State.{the_view}
use Rattle.event_state.specs.declared.event.Event.TheVariants as event
use Rattle.event_state.specs.Changes.{lsas_in}
use Rattle.event_state.specs.States.{State, LooksAlike, place_of}
use Rattle.event_state.specs.Steps.{changed_by}
use Rattle.event_state.proofs.Carried.{place_held, held_after}
use Rattle.event_state.proofs.HeldStates.{fit_aged_out}
use Rattle.event_state.proofs.Looks.{looks_change, flush_alike}
use Rattle.event_state.proofs.OneChange.{lsas_at}
use Rattle.event_state.proofs.Sizes.{aged_out_small}
use Rattle.event_state.proofs.state.State.flush.Goals as goal

pub invariant_of-self : goal.invariant_of-self
invariant_of-self c =
    let i = c.self.inside in
    let place : place_of i.config.areas c.args.scope ≡ Some c.in-Some.place = ap (λ (areas : List AreaConfig). place_of areas c.args.scope) (sym c.as_slice.ensures) ∙ sym c.place_of.ensures ∙ c.in-Some.is in
    let done = rw c.as_mut_slice.ensures.value at c.age_out_at.ensures.done in
    record {
      held = held_after i.config i.limits i.databases c.age_out_at.new.databases c.args.scope c.in-Some.place (λ (d : Database). aged_out d c.args.key) c.self.invariant.held place
          (λ fit. fit_aged_out c.args.scope _ c.args.key fit) (aged_out_small _ _ c.args.key (c.self.invariant.held.within c.in-Some.place)) done;
      interfaces = c.self.invariant.interfaces;
      serial = c.self.invariant.serial;
    }

pub returns-in-Some-clause-changed : goal.returns-in-Some-clause-changed
returns-in-Some-clause-changed c =
    let i = c.self.inside in
    let k = c.in-Some.place in
    let changed = c.age_out_at.result in
    let place : place_of i.config.areas c.args.scope ≡ Some k = ap (λ (areas : List AreaConfig). place_of areas c.args.scope) (sym c.as_slice.ensures) ∙ sym c.place_of.ensures ∙ c.in-Some.is in
    let lt = place_held i.config i.limits i.databases.items c.args.scope k c.self.invariant.held place in
    let told = rw c.as_mut_slice.ensures.value at c.age_out_at.ensures.changed in
    let alike : (changed ≡ false) ↔ (used_at (get_or (lsas_in i.databases.items) k empty) c.args.key ≡ None) = subst (λ (d : Database). (changed ≡ false) ↔ (used_at d c.args.key ≡ None)) (sym (lsas_at i.databases.items k)) told in
    let used = flush_alike (get_or (lsas_in i.databases.items) k empty) c.args.key in
    let looks = looks_change (the_view i) c.args.scope k place lt (λ (d : Database). aged_out d c.args.key) in
    subst (λ (s : State). (changed ≡ false) ↔ LooksAlike s (changed_by s (event.Flush c.args.scope c.args.key))) c.self.view_is
    (λ e. looks.0 (used.0 (alike.0 e)), λ t. alike.1 (used.1 (looks.1 t)))
