-- One area more followed.
use Rattle.std.proofs.Common.{ℕ, ◌≡◌, ◌<◌, List, length, get_or, sym, ap, subst, ◌∙◌, arith, inl, inr}
use Rattle.std.specs.Prelude.{◌↔◌}
use Rattle.std.proofs.lemmas.List.{get_or_default}
use Rattle.std.specs.List.{Contains}
use Rattle.spf.proofs.OfSome.{contains_at}
use Rattle.intra.specs.Inputs.{AreaValue, InputsValue}
use Rattle.intra.specs.Intras.{AreaIntraValue}
use Rattle.intra.specs.Following.{IsIndexFollowed, AreRoutersUpdated, IsRouterNamed, with_index_of}
use Rattle.intra.specs.Updating.{IsBroughtTo, IsKeptBefore, HasOtherAmong}
use Rattle.intra.proofs.Placing.{first_more, first_weaker, brought_grown, followed_from, settled_from, kept_before, other_more}
use Rattle.intra.proofs.intra.follow_areas.Goals as goal

pub follow-requires-clause-ready : goal.follow-requires-clause-ready
follow-requires-clause-ready c =
    let a = c.index-all-place.result in
    let same = ap (λ (v : InputsValue). v.areas) c.inputs.view_is in
    let is = c.requires.ready a (subst (λ (areas : List AreaValue). Contains areas a) same (contains_at _ c.loop-place.place a c.loop-place-test.true c.index-all-place.is)) in
    (c.args.inputs.now.root, is.0, is.1)

pub follow-requires-clause-before : goal.follow-requires-clause-before
follow-requires-clause-before c =
    let v = c.args.inputs.now in
    let keys = c.args.dirty.now.keys.items in
    let vertices = c.args.dirty.now.vertices.items in
    let place = c.loop-place.place in
    let a = c.index-all-place.result in
    let i : AreaIntraValue = get_or c.loop-place.areas place c.index-areas-place.result in
    let same = ap (λ (v : InputsValue). v.areas) c.inputs.view_is in
    let at : get_or v.areas place a ≡ a = sym (c.index-all-place.is ∙ ap (λ (areas : List AreaValue). get_or areas place a) same) in
    let there : place < length v.areas = subst (λ (areas : List AreaValue). place < length areas) same c.loop-place-test.true in
    let was = sym (c.loop-place.invariant.brought.rest place c.index-areas-place.result (omega arith)) in
    kept_before v.root keys vertices a i (subst (λ (x : AreaValue). IsKeptBefore v.root keys vertices x i) at
    (subst (λ (x : AreaIntraValue). IsKeptBefore v.root keys vertices (get_or v.areas place a) x) was (c.requires.before.each place a c.index-areas-place.result there)))

pub loop-place-preserved : goal.loop-place-preserved
loop-place-preserved c =
    let v = c.args.inputs.now in
    let keys = c.args.dirty.now.keys.items in
    let vertices = c.args.dirty.now.vertices.items in
    let interfaces = c.args.dirty.now.interfaces.items in
    let place = c.loop-place.place in
    let first = c.args.areas.now in
    let now = c.loop-place.areas in
    let a = c.index-all-place.result in
    let i : AreaIntraValue = get_or now place c.index-areas-place.result in
    let j = c.follow.new.self in
    let before = c.loop-place.named in
    let after = c.follow.new.named in
    let so_far = c.loop-place.invariant in
    let same = ap (λ (v : InputsValue). v.areas) c.inputs.view_is in
    let root = ap (λ (v : InputsValue). v.root) c.inputs.view_is in
    let at : a ≡ get_or v.areas place a = c.index-all-place.is ∙ ap (λ (areas : List AreaValue). get_or areas place a) same in
    let there : place < length v.areas = subst (λ (areas : List AreaValue). place < length areas) same c.loop-place-test.true in
    let within : place < length now = omega (arith, there, c.requires.before.as_many, so_far.brought.as_many) in
    let here = get_or_default now place c.index-areas-place.result _ within in
    let gathered = subst (λ (root : ℕ). IsIndexFollowed root vertices interfaces i (with_index_of i j) before.prefixes.items after.prefixes.items) root c.in_ok-follow.ensures.gathered in
    let updated = subst (λ (root : ℕ). AreRoutersUpdated root a (IsRouterNamed keys vertices i.id) (with_index_of i j) j before.routers.items after.routers.items) root c.in_ok-follow.ensures.updated in
    let P = IsBroughtTo v.root keys vertices interfaces in
    let step : P after.prefixes.items a i j = record {
      followed = followed_from v.root vertices interfaces before.prefixes.items after.prefixes.items a i (with_index_of i j) c.in_ok-follow.ensures.index gathered;
      settled = settled_from v.root keys vertices before.routers.items after.routers.items a (with_index_of i j) j updated;
    } in
    record {
      brought = first_more (P after.prefixes.items) v.areas first now place a i j there within at here step
          (first_weaker (P before.prefixes.items) (P after.prefixes.items) v.areas first now place (brought_grown v.root keys vertices interfaces before.prefixes.items after.prefixes.items gathered.touched.kept) so_far.brought);
      exact = λ r.
          let more = other_more first now place r i j within here so_far.brought.rest in
          let was = so_far.exact r in
          let is = updated.exact r in (
            λ d. more.1 (elim (is.0 d) [ inl held ↦ inl (was.0 held) | inr other ↦ inr other ]),
            λ w. is.1 (elim (more.0 w) [ inl held ↦ inl (was.1 held) | inr other ↦ inr other ]),
          );
    }

pub returns-clause-exact : goal.returns-clause-exact
returns-clause-exact c =
    let same = ap (λ (v : InputsValue). length v.areas) c.inputs.view_is in
    let all : c.loop-place.place ≡ length c.args.inputs.now.areas = omega (arith, same, c.loop-place.auto.place-end, c.loop-place-test.false) in
    λ r. subst (λ (count : ℕ). Contains c.loop-place.named.routers.items r ↔ HasOtherAmong count c.args.areas.now c.loop-place.areas r) all (c.loop-place.invariant.exact r)
