use Rattle.std.proofs.Common.{◌≡◌, ℕ, List, sym, ap, subst}
use Rattle.std.proofs.lemmas.Result.{IfOk-weaker}
use Rattle.ospf_types.specs.declared.config.Config.{Config}
use Rattle.ospf_types.specs.declared.key.Scope.TheVariants.{Area}
use Rattle.lsdb.specs.Databases.{Database}
use Rattle.vertex_graph.specs.Up.{Up}
use Rattle.area_trees.specs.Areas.{IsAreaTree}
use Rattle.event_state.specs.States.{database_of}
use Rattle.route_layers.specs.Trees.{AreUpsOf, lsas_in}
use Rattle.route_layers.proofs.Places.{lsas_there}
use Rattle.route_layers.proofs.trees.build_tree.Goals as goal

pub returns-clause-right : goal.returns-clause-right
returns-clause-right c =
    let d : Database = c.in-Some.database.now.lsas in
    let there : lsas_in (database_of c.args.state.now (Area c.args.area)) ≡ d = lsas_there (database_of c.args.state.now (Area c.args.area)) d c.in-Some.ensures.value in
    IfOk-weaker c.build.result _ _ (λ built is. (
      c.deref.result.now,
      subst (λ (list : List Up). AreUpsOf c.args.state.now c.args.area list) (sym c.deref.ensures.value) c.in_ok-ups.ensures,
      subst (λ (r : ℕ). IsAreaTree r (lsas_in (database_of c.args.state.now (Area c.args.area))) c.deref.result.now built.0) (ap (λ (k : Config). k.router) c.config.ensures.value)
          (subst (λ (e : Database). IsAreaTree c.config.result.now.router e c.deref.result.now built.0) (sym there) is),
    )) c.build.ensures.right
