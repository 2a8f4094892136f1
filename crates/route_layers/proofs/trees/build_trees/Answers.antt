use Rattle.std.proofs.Common.{◌≡◌, ◌<◌, ◌+◌, List, take, get_or, length, sym, ap, subst, ◌∙◌}
use Rattle.ospf_types.specs.declared.config.AreaConfig.{AreaConfig}
use Rattle.ospf_types.specs.declared.config.Config.{Config}
use Rattle.area_trees.specs.Areas.{AreaTreeValue}
use Rattle.route_layers.specs.Turns.{AreBuilt}
use Rattle.route_layers.proofs.Building.{one_built}
use Rattle.route_layers.proofs.Places.{area_there}
use Rattle.route_layers.proofs.trees.build_trees.Goals as goal

pub build_tree-requires-clause-there : goal.build_tree-requires-clause-there
build_tree-requires-clause-there c =
    let areas = c.args.state.now.config.areas in
    let a : AreaConfig = c.area-item.result in
    let listed : c.as_slice-area-items.result.now ≡ areas = c.as_slice-area-items.ensures ∙ ap (λ (k : Config). k.areas) c.config.ensures.value in
    let lt : c.loop-area.area-index < length areas = subst (λ (list : List AreaConfig). c.loop-area.area-index < length list) listed c.loop-area-test.true in
    area_there areas c.loop-area.area-index a a lt (c.area-item.is ∙ ap (λ (list : List AreaConfig). get_or list c.loop-area.area-index a) listed)

pub loop-area-preserved : goal.loop-area-preserved
loop-area-preserved c =
    let areas = c.args.state.now.config.areas in
    let a : AreaConfig = c.area-item.result in
    let listed : c.as_slice-area-items.result.now ≡ areas = c.as_slice-area-items.ensures ∙ ap (λ (k : Config). k.areas) c.config.ensures.value in
    let lt : c.loop-area.area-index < length areas = subst (λ (list : List AreaConfig). c.loop-area.area-index < length list) listed c.loop-area-test.true in
    subst (λ (trees : List AreaTreeValue). AreBuilt c.args.state.now (take (c.loop-area.area-index + 1) areas) trees c.both-work.result) (sym c.in_ok-push.ensures.items)
    (one_built c.args.state.now areas c.loop-area.area-index a c.loop-area.trees.items c.in_ok-tree.tree c.loop-area.work c.in_ok-tree.touched c.both-work.result lt (c.area-item.is ∙ ap (λ (list : List AreaConfig). get_or list c.loop-area.area-index a) listed)
    c.loop-area.invariant c.in_ok-tree.ensures.right c.in_ok-tree.ensures.work c.both-work.ensures.taken c.both-work.ensures.hop_sets)
