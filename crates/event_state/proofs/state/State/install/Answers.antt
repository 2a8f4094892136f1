use Rattle.std.proofs.Common.{◌≡◌, ℕ, false, List, Some, None, get_or, subst, sym, refl, ap, ◌∙◌}
use Rattle.std.specs.Prelude.{IfOk, ◌↔◌}
use Rattle.std.specs.FinMap.{empty, insert}
use Rattle.ospf_types.specs.declared.config.AreaConfig.{AreaConfig}
use Rattle.ospf_types.specs.Lsa.{key_of}
use Rattle.lsdb.specs.Databases.{Database, DatabaseValue, install_refusal_of}
use Rattle.lsdb.specs.Contents.{IsUsedAlike}
use Rattle.event_state.specs.contracts.state.State.{the_view}
use Rattle.event_state.specs.declared.event.Event.TheVariants as event
use Rattle.event_state.specs.Changes.{no_database, lsas_in, limits_in}
use Rattle.event_state.specs.States.{State, LooksAlike, place_of}
use Rattle.event_state.specs.Steps.{changed_by, IsAccepted}
use Rattle.event_state.proofs.Accepted.{install_fits}
use Rattle.event_state.proofs.Carried.{fits_at, place_held, held_after_try, install_looks}
use Rattle.event_state.proofs.HeldStates.{fit_insert}
use Rattle.event_state.proofs.OneChange.{lsas_at}
use Rattle.event_state.proofs.Sizes.{insert_small}
use Rattle.event_state.proofs.state.State.install.Goals as goal

pub put_at-requires-clause-fits : goal.put_at-requires-clause-fits
put_at-requires-clause-fits c =
    let i = c.self.inside in
    let s = the_view i in
    let place : place_of i.config.areas c.args.scope ≡ Some c.in-Some.place = ap (λ (areas : List AreaConfig). place_of areas c.args.scope) (sym c.as_slice.ensures) ∙ sym c.place_of.ensures ∙ c.in-Some.is in
    let taken = subst (λ (t : State). IsAccepted t (event.Install c.args.scope c.args.lsa)) (sym c.self.view_is) c.requires in
    let limit = c.self.invariant.held.limited c.args.scope c.in-Some.place place in
    let fits = install_fits s c.args.scope c.in-Some.place place c.args.lsa taken in
    subst (λ (ds : List DatabaseValue). install_refusal_of (get_or ds c.in-Some.place no_database).lsas (get_or ds c.in-Some.place no_database).limit c.args.lsa ≡ None) (sym c.as_mut_slice.ensures.value)
    (fits_at i.databases.items c.in-Some.place c.args.lsa (ap (λ (n : ℕ). install_refusal_of (get_or (lsas_in i.databases.items) c.in-Some.place empty) n c.args.lsa) limit ∙ fits))

pub invariant_of-self : goal.invariant_of-self
invariant_of-self c =
    let i = c.self.inside in
    let s = the_view i in
    let lsa = c.args.lsa in
    let place : place_of i.config.areas c.args.scope ≡ Some c.in-Some.place = ap (λ (areas : List AreaConfig). place_of areas c.args.scope) (sym c.as_slice.ensures) ∙ sym c.place_of.ensures ∙ c.in-Some.is in
    let taken = subst (λ (t : State). IsAccepted t (event.Install c.args.scope lsa)) (sym c.self.view_is) c.requires in
    let limit = c.self.invariant.held.limited c.args.scope c.in-Some.place place in
    let fits = install_fits s c.args.scope c.in-Some.place place c.args.lsa taken in
    let room : install_refusal_of (get_or (lsas_in i.databases.items) c.in-Some.place empty) (get_or (limits_in i.databases.items) c.in-Some.place 0) lsa ≡ None = ap (λ (n : ℕ). install_refusal_of (get_or (lsas_in i.databases.items) c.in-Some.place empty) n lsa) limit ∙ fits in
    let small = insert_small (get_or (lsas_in i.databases.items) c.in-Some.place empty) (get_or (limits_in i.databases.items) c.in-Some.place 0) lsa room (c.self.invariant.held.within c.in-Some.place) in
    let kept = rw c.as_mut_slice.ensures.value at c.put_at.ensures.unchanged in
    let done = rw c.as_mut_slice.ensures.value at c.put_at.ensures.done in
    record {
      held = held_after_try i.config i.limits i.databases c.put_at.new.databases c.args.scope c.in-Some.place (λ (d : Database). insert d (key_of lsa) lsa) c.self.invariant.held place c.put_at.result
          (λ fit. fit_insert c.args.scope _ (key_of lsa) lsa fit (record { own = refl; legal = c.put_at.ensures.legal; placed = taken.placed })) small kept done;
      interfaces = c.self.invariant.interfaces;
      serial = c.self.invariant.serial;
    }

pub returns-in-Some-clause-changed : goal.returns-in-Some-clause-changed
returns-in-Some-clause-changed c =
    let i = c.self.inside in
    let k = c.in-Some.place in
    let place : place_of i.config.areas c.args.scope ≡ Some k = ap (λ (areas : List AreaConfig). place_of areas c.args.scope) (sym c.as_slice.ensures) ∙ sym c.place_of.ensures ∙ c.in-Some.is in
    let lt = place_held i.config i.limits i.databases.items c.args.scope k c.self.invariant.held place in
    let told = rw c.as_mut_slice.ensures.value at c.put_at.ensures.changed in
    let alike : IfOk c.put_at.result (λ changed. (changed ≡ false) ↔ IsUsedAlike (get_or (lsas_in i.databases.items) k empty) c.args.lsa) =
    subst (λ (d : Database). IfOk c.put_at.result (λ changed. (changed ≡ false) ↔ IsUsedAlike d c.args.lsa)) (sym (lsas_at i.databases.items k)) told in
    subst (λ (s : State). IfOk c.put_at.result (λ changed. (changed ≡ false) ↔ LooksAlike s (changed_by s (event.Install c.args.scope c.args.lsa)))) c.self.view_is
    (install_looks (the_view i) c.args.scope k c.args.lsa c.put_at.result place lt alike)
