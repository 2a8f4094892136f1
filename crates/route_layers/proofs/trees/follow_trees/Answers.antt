use Rattle.std.proofs.Common.{◌≡◌, ℕ, ◌+◌, ◌<◌, ◌≤◌, List, length, map, get_or, set, sym, ap, subst, ◌∙◌, arith}
use Rattle.ospf_types.specs.declared.config.AreaConfig.{AreaConfig}
use Rattle.ospf_types.specs.declared.config.Config.{Config}
use Rattle.ospf_types.specs.declared.entry.Vertex.{Vertex}
use Rattle.ospf_types.proofs.RangeChanges.{areas_kept}
use Rattle.area_trees.specs.Areas.{AreaTreeValue}
use Rattle.event_state.proofs.InPlace.{not_reached}
use Rattle.route_layers.specs.Trees.{IsTreeFor, AreTreesOf}
use Rattle.route_layers.specs.Turns.{Turn, AreFollowedTo}
use Rattle.route_layers.proofs.OtherRanges.{trees_kept, long_kept}
use Rattle.route_layers.proofs.Places.{area_there}
use Rattle.route_layers.proofs.Turns.{trees_long, tree_at, turn_more, all_followed, others_still}
use Rattle.route_layers.proofs.trees.follow_trees.Goals as goal

pub bounds-trees-place : goal.bounds-trees-place
bounds-trees-place c =
    let areas = c.args.changed.state.now.config.areas in
    let listed : c.as_slice-area-items.result.now ≡ areas = c.as_slice-area-items.ensures ∙ ap (λ (k : Config). k.areas) c.config.ensures.value in
    let lt : c.loop-place.place < length areas = subst (λ (list : List AreaConfig). c.loop-place.place < length list) listed c.loop-place-test.true in
    let b = c.requires.before in
    let same : length areas ≡ length b.0.config.areas = long_kept areas b.0.config.areas (areas_kept c.args.changed.state.now.config b.0.config b.2.areas) in
    let long : length c.args.trees.now ≡ length b.0.config.areas = trees_long b.0 b.0.config.areas c.args.trees.now b.1 in
    omega (arith, lt, same, long, c.loop-place.auto.trees)

pub follow_tree-requires-clause-there : goal.follow_tree-requires-clause-there
follow_tree-requires-clause-there c =
    let areas = c.args.changed.state.now.config.areas in
    let a : AreaConfig = c.area-item.result in
    let listed : c.as_slice-area-items.result.now ≡ areas = c.as_slice-area-items.ensures ∙ ap (λ (k : Config). k.areas) c.config.ensures.value in
    let lt : c.loop-place.place < length areas = subst (λ (list : List AreaConfig). c.loop-place.place < length list) listed c.loop-place-test.true in
    area_there areas c.loop-place.place a a lt (c.area-item.is ∙ ap (λ (list : List AreaConfig). get_or list c.loop-place.place a) listed)

pub follow_tree-requires-clause-before : goal.follow_tree-requires-clause-before
follow_tree-requires-clause-before c =
    let areas = c.args.changed.state.now.config.areas in
    let i = c.loop-place.place in
    let a : AreaConfig = c.area-item.result in
    let listed : c.as_slice-area-items.result.now ≡ areas = c.as_slice-area-items.ensures ∙ ap (λ (k : Config). k.areas) c.config.ensures.value in
    let lt : i < length areas = subst (λ (list : List AreaConfig). i < length list) listed c.loop-place-test.true in
    let area_is : a ≡ get_or areas i a = c.area-item.is ∙ ap (λ (list : List AreaConfig). get_or list i a) listed in
    let b = c.requires.before in
    let trees : AreTreesOf b.0 areas c.args.trees.now = trees_kept b.0 b.0.config.areas areas (sym (areas_kept c.args.changed.state.now.config b.0.config b.2.areas)) c.args.trees.now b.1 in
    let long : length c.args.trees.now ≡ length areas = trees_long b.0 areas c.args.trees.now trees in
    let now = c.loop-place.trees in
    let t : AreaTreeValue = c.index-trees-place.result in
    let lt_now : i < length now = omega (arith, lt, long, c.loop-place.auto.trees) in
    let here : get_or c.args.trees.now i t ≡ t = not_reached now c.args.trees.now i t lt_now c.loop-place.auto.trees c.index-trees-place.is c.loop-place.invariant.rest in
    let tree : IsTreeFor b.0 (get_or areas i a).id (get_or c.args.trees.now i t) = tree_at b.0 areas c.args.trees.now i a t trees lt in
    let first : IsTreeFor b.0 a.id (get_or c.args.trees.now i t) = subst (λ (x : AreaConfig). IsTreeFor b.0 x.id (get_or c.args.trees.now i t)) (sym area_is) tree in
    (b.0, subst (λ (x : AreaTreeValue). IsTreeFor b.0 a.id x) (here ∙ c.index-trees-place.is) first, b.2)

pub loop-place-preserved : goal.loop-place-preserved
loop-place-preserved c =
    let areas = c.args.changed.state.now.config.areas in
    let i = c.loop-place.place in
    let a : AreaConfig = c.area-item.result in
    let listed : c.as_slice-area-items.result.now ≡ areas = c.as_slice-area-items.ensures ∙ ap (λ (k : Config). k.areas) c.config.ensures.value in
    let lt : i < length areas = subst (λ (list : List AreaConfig). i < length list) listed c.loop-place-test.true in
    let area_is : a ≡ get_or areas i a = c.area-item.is ∙ ap (λ (list : List AreaConfig). get_or list i a) listed in
    let b = c.requires.before in
    let same : length areas ≡ length b.0.config.areas = long_kept areas b.0.config.areas (areas_kept c.args.changed.state.now.config b.0.config b.2.areas) in
    let long : length c.args.trees.now ≡ length areas = trees_long b.0 b.0.config.areas c.args.trees.now b.1 ∙ sym same in
    let now = c.loop-place.trees in
    let old : AreaTreeValue = get_or now i c.index-trees-place.result in
    let new : AreaTreeValue = c.follow_tree.new.tree in
    let x : Turn = record { area = a; old = old; new = new; work = c.in_ok-touched.touched } in
    let named : List (ℕ × Vertex) = map (λ (v : Vertex). (a.id, v)) new.tree.changed in
    let old_is : old ≡ get_or now i old = ap (get_or now i) c.index-trees-place.is in
    subst (λ (list : List (ℕ × Vertex)). AreFollowedTo c.args.changed.state.now areas c.args.trees.now (set now i new) list c.both-work.result (i + 1)) (sym c.in_ok-push_changed.ensures)
    (turn_more c.args.changed.state.now areas c.args.trees.now now c.loop-place.vertices.items named c.loop-place.work c.both-work.result i x lt (c.loop-place.auto.trees ∙ long) long area_is old_is c.loop-place.invariant
    (record {
      right = c.in_ok-touched.ensures.right;
      others = others_still a.id c.loop-place.vertices.items old new c.in_ok-touched.ensures.others;
      bounded = c.in_ok-touched.ensures.bounded;
      done = c.in_ok-touched.ensures.work;
    }) c.both-work.ensures.taken c.both-work.ensures.hop_sets)

pub returns : goal.returns
returns c =
    let areas = c.args.changed.state.now.config.areas in
    let listed : c.as_slice-area-items.result.now ≡ areas = c.as_slice-area-items.ensures ∙ ap (λ (k : Config). k.areas) c.config.ensures.value in
    let b = c.requires.before in
    let same : length areas ≡ length b.0.config.areas = long_kept areas b.0.config.areas (areas_kept c.args.changed.state.now.config b.0.config b.2.areas) in
    let long : length c.args.trees.now ≡ length areas = trees_long b.0 b.0.config.areas c.args.trees.now b.1 ∙ sym same in
    let past : length areas ≤ c.loop-place.place = subst (λ (list : List AreaConfig). length list ≤ c.loop-place.place) listed c.loop-place-test.false in
    all_followed c.args.changed.state.now areas c.args.trees.now c.loop-place.trees c.loop-place.vertices.items c.loop-place.work c.loop-place.place past long (c.loop-place.auto.trees ∙ long) c.loop-place.invariant
