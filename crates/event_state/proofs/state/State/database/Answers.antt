use Rattle.std.proofs.Common.{◌≡◌, ◌<◌, Some, List, length, get_or, sym, ap, ◌∙◌, subst, arith}
use Rattle.std.proofs.lemmas.List.{length-map}
use Rattle.ospf_types.specs.declared.config.AreaConfig.{AreaConfig}
use Rattle.lsdb.specs.Databases.{DatabaseValue}
use Rattle.event_state.specs.States.{State, place_of}
use Rattle.event_state.specs.Steps.{limit_of}
use Rattle.event_state.proofs.Carried.{limit_here, place_held}
use Rattle.event_state.proofs.state.State.database.Goals as goal

pub returns-clause-limit : goal.returns-clause-limit
returns-clause-limit c =
    let i = c.self.inside in
    let k = c.in_ok-place.place in
    let d = c.index-databases-place.result in
    let ds = i.databases.items in
    let place : place_of i.config.areas c.args.scope ≡ Some k = ap (λ (areas : List AreaConfig). place_of areas c.args.scope) (sym c.as_slice.ensures) ∙ sym c.place_of.ensures ∙ c.in_ok-place.was in
    let lt : k < length ds = omega (arith, place_held i.config i.limits ds c.args.scope k c.self.invariant.held place, length-map ds (λ (e : DatabaseValue). e.lsas)) in
    let is : d ≡ get_or ds k d = subst (λ (es : List DatabaseValue). d ≡ get_or es k d) c.as_slice-databases.ensures.value c.index-databases-place.is in
    limit_here i.config i.limits ds c.args.scope k d c.self.invariant.held place lt is ∙ ap (λ (s : State). limit_of s.limits c.args.scope) c.self.view_is
