use Rattle.std.proofs.Common.{rules, ◌≡◌, List, [], sym, subst, ◌∙◌, ⊎_elim}
use Rattle.std.proofs.lemmas.Result.{on_ok_weaker}
use Rattle.ospf_types.specs.declared.key.Key.{Key}
use Rattle.ospf_types.specs.declared.key.Scope.TheVariants.{Area}
use Rattle.lsdb.specs.Databases.{Database}
use Rattle.vertex_graph.specs.Up.{Up}
use Rattle.area_trees.specs.Areas.{IsAreaTree, DifferAmong}
use Rattle.event_state.specs.States.{database_of}
use Rattle.route_layers.specs.Trees.{AreUpsOf, lsas_in}
use Rattle.route_layers.proofs.Places.{lsas_there}
use Rattle.route_layers.proofs.Follows.{nothing, keys_named, tree_by_keys, tree_by_interfaces}
use Rattle.route_layers.proofs.trees.follow_tree.Goals as goal

pub returns-then-not-is_empty-clause-right : goal.returns-then-not-is_empty-clause-right
returns-then-not-is_empty-clause-right c =
    let b = c.requires.before in
    let some : c.args.changed.interfaces.now ≡ [] → ⊥ = λ none. search rules in
    let none : c.args.changed.keys.now ≡ [] = ⊎_elim (λ (e : c.args.changed.keys.now ≡ []). e) (λ (e : c.args.changed.interfaces.now ≡ []). absurd (some e)) b.2.one_kind in
    let ups : AreUpsOf c.args.changed.state.now c.args.area c.deref.result.now = subst (λ (list : List Up). AreUpsOf c.args.changed.state.now c.args.area list) (sym c.deref.ensures.value) c.in_ok-ups.ensures in
    on_ok_weaker c.interfaces.result
    (λ right. tree_by_interfaces b.0 c.args.changed.state.now c.args.changed.keys.now c.args.changed.interfaces.now b.2 none c.args.area c.deref.result.now c.interfaces.new.self ups (right b.0.config.router (lsas_in (database_of b.0 (Area c.args.area))) b.1.0 b.1.2))
    c.interfaces.ensures.right

pub follow-requires-clause-before : goal.follow-requires-clause-before
follow-requires-clause-before c =
    let b = c.requires.before in
    let old : Database = lsas_in (database_of b.0 (Area c.args.area)) in
    let d : Database = c.in-Some.database.now.lsas in
    let there : lsas_in (database_of c.args.changed.state.now (Area c.args.area)) ≡ d = lsas_there (database_of c.args.changed.state.now (Area c.args.area)) d c.in-Some.ensures.value in (
      b.0.config.router,
      old,
      b.1.0,
      b.1.2,
      subst (λ (list : List Key). DifferAmong old d list) (sym c.deref-2.ensures.value)
          (subst (λ (e : Database). DifferAmong old e c.in_ok-keys.keys.items) there (keys_named b.0 c.args.changed.state.now c.args.changed.keys.now c.args.changed.interfaces.now b.2 c.args.area c.in_ok-keys.keys.items c.in_ok-keys.ensures)),
    )

pub returns-clause-right : goal.returns-clause-right
returns-clause-right c =
    let b = c.requires.before in
    let d : Database = c.in-Some.database.now.lsas in
    let there : lsas_in (database_of c.args.changed.state.now (Area c.args.area)) ≡ d = lsas_there (database_of c.args.changed.state.now (Area c.args.area)) d c.in-Some.ensures.value in
    let none : c.args.changed.interfaces.now ≡ [] = nothing c.args.changed.interfaces.now (sym c.is_empty.ensures ∙ c.if-not-is_empty.false) in
    on_ok_weaker c.follow.result
    (λ right. tree_by_keys b.0 c.args.changed.state.now c.args.changed.keys.now c.args.changed.interfaces.now b.2 none c.args.area b.1.0 c.follow.new.self b.1.1
    (subst (λ (e : Database). IsAreaTree b.0.config.router e b.1.0 c.follow.new.self) (sym there) (right b.0.config.router (lsas_in (database_of b.0 (Area c.args.area))) b.1.0 b.1.2)))
    c.follow.ensures.right
