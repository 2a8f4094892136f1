use Rattle.std.proofs.Common.{◌≡◌, ℕ, true, List, length, sym, ap, subst, ◌∙◌}
use Rattle.std.specs.Prelude.{is_some}
use Rattle.ospf_types.specs.declared.key.Key.{Key}
use Rattle.ospf_types.specs.declared.key.Scope.{Scope}
use Rattle.area_trees.specs.Areas.{AreaTreeValue}
use Rattle.intra.specs.Changes.{InputsDifferAmong}
use Rattle.event_state.proofs.InPlace.{items_of_slice}
use Rattle.active_ranges.specs.Active.{IsRangeNetwork}
use Rattle.calculation.specs.Calculations.{CalculationValue, IsCalculationOf, IsItemOf}
use Rattle.route_layers.specs.Trees.{inputs_with, AreTreesOf, StatesDifferAmong}
use Rattle.calculation.specs.Summaries.{RoutesDifferAmong}
use Rattle.route_layers.proofs.OtherRanges.{any_ranges}
use Rattle.route_layers.proofs.Followed.{followed_long, followed_trees, followed_inputs, followed_work}
use Rattle.calculation.proofs.calculation.Calculation.follow.Goals as goal

pub follow_trees-requires-clause-before : goal.follow_trees-requires-clause-before
follow_trees-requires-clause-before c =
    let b = c.requires.before in
    let old : c.args.self.now.trees ≡ c.deref_mut.result.now = ap (λ (k : CalculationValue). k.trees) (sym c.self.view_is) ∙ sym c.deref_mut.ensures.value in (
      b.0,
      subst (λ (trees : List AreaTreeValue). AreTreesOf b.0 b.0.config.areas trees) old b.1.trees,
      subst (λ (keys : List (Scope × Key)). StatesDifferAmong keys c.deref-2.result.now true b.0 c.args.state.now) (sym c.deref.ensures.value)
          (subst (λ (ids : List ℕ). StatesDifferAmong c.args.keys.items ids true b.0 c.args.state.now) (sym c.deref-2.ensures.value)
          (any_ranges b.0 c.args.state.now c.args.keys.items c.args.ids.items (is_some c.args.range) b.2)),
    )

pub follow_layers-requires-clause-trees : goal.follow_layers-requires-clause-trees
follow_layers-requires-clause-trees c =
    let s = c.args.state.now in
    let all = c.in_ok-work.ensures in
    let new = c.follow_trees.new.trees in
    let long = followed_long s s.config.areas c.deref_mut.result.now new c.follow_trees.new.vertices.items c.in_ok-work.work all ∙ ap length c.deref_mut.ensures.value in
    subst (λ (trees : List AreaTreeValue). AreTreesOf s s.config.areas trees) (sym (items_of_slice c.self.inside.trees new long)) (followed_trees s s.config.areas c.deref_mut.result.now new c.follow_trees.new.vertices.items c.in_ok-work.work all)

pub follow_layers-requires-clause-before : goal.follow_layers-requires-clause-before
follow_layers-requires-clause-before c =
    let s = c.args.state.now in
    let all = c.in_ok-work.ensures in
    let b = c.requires.before in
    let old = c.deref_mut.result.now in
    let new = c.follow_trees.new.trees in
    let vertices = c.follow_trees.new.vertices.items in
    let long = followed_long s s.config.areas old new vertices c.in_ok-work.work all ∙ ap length c.deref_mut.ensures.value in
    let differ = followed_inputs b.0 s c.args.keys.items c.args.ids.items (any_ranges b.0 s c.args.keys.items c.args.ids.items (is_some c.args.range) b.2) old new vertices c.in_ok-work.work all in (
      b.0,
      c.self.inside.trees.items,
      subst (IsCalculationOf b.0) (sym c.self.view_is) b.1,
      b.2,
      subst (λ (trees : List AreaTreeValue). InputsDifferAmong c.args.keys.items vertices c.args.ids.items (inputs_with b.0 c.self.inside.trees.items) (inputs_with s trees)) (sym (items_of_slice c.self.inside.trees new long))
          (subst (λ (trees : List AreaTreeValue). InputsDifferAmong c.args.keys.items vertices c.args.ids.items (inputs_with b.0 trees) (inputs_with s new)) c.deref_mut.ensures.value differ),
      b.3,
    )

pub returns-clause-items : goal.returns-clause-items
returns-clause-items c = λ p item not is. c.in_ok-networks.ensures.items p item not (subst (λ (k : CalculationValue). IsItemOf k p item) (sym c.self.view_is) is)

pub returns-clause-routes : goal.returns-clause-routes
returns-clause-routes c =
    let routes = c.in_ok-networks.ensures.routes in
    subst (λ (k : CalculationValue). RoutesDifferAmong c.follow_layers.new.dirty.dests.items k c.follow_layers.new.self) c.self.view_is
    (record { intra = routes.intra; members = routes.members; inter = routes.inter; preferred = routes.preferred })

pub returns-clause-named : goal.returns-clause-named
returns-clause-named c =
    λ area prefix e.
    let named = c.in_ok-networks.ensures.named area prefix e in
    (named.0, λ network within. named.1 network (subst (λ (k : CalculationValue). IsRangeNetwork k.intra.entries area prefix network) (sym c.self.view_is) within))

pub returns-clause-work : goal.returns-clause-work
returns-clause-work c =
    let old : c.args.self.now.trees ≡ c.deref_mut.result.now = ap (λ (k : CalculationValue). k.trees) (sym c.self.view_is) ∙ sym c.deref_mut.ensures.value in
    λ before is differ.
    followed_work before c.args.state.now c.args.keys.items c.args.ids.items (any_ranges before c.args.state.now c.args.keys.items c.args.ids.items (is_some c.args.range) differ) c.deref_mut.result.now c.follow_trees.new.trees c.follow_trees.new.vertices.items c.in_ok-work.work c.in_ok-work.ensures
    is.fit c.in_ok-networks.ensures.right.fit (subst (λ (trees : List AreaTreeValue). AreTreesOf before before.config.areas trees) old is.trees)
