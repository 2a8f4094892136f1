use Rattle.std.proofs.Common.{◌≡◌, Bool, List, [], length, true, sym, subst, arith}
use Rattle.std.specs.Prelude.{◌==◌}
use Rattle.std.proofs.lemmas.Bool.Decides.{nat_tests}
use Rattle.std.proofs.lemmas.List.{nil_from_length}
use Rattle.ospf_types.specs.declared.key.Key.{Key}
use Rattle.lsdb.specs.Databases.{Database}
use Rattle.vertex_graph.specs.Graphs.{AreExact}
use Rattle.spf.specs.Touched.{Touched}
use Rattle.spf.specs.TreeValues.{TreeValue, AreChanged, IsBounded, IsWorkDone}
use Rattle.area_trees.specs.Areas.{AreaTreeValue, DifferAmong, IsAreaTree, IsGraphOf}
use Rattle.area_trees.proofs.AreaTrees.{tree_before}
use Rattle.area_trees.proofs.Resting.{graph_rests, no_bounds, no_work, none_changed, rested, rests, same_graph}
use Rattle.area_trees.proofs.area_tree.AreaTree.follow_keys.Goals as goal

pub follow-requires-clause-before : goal.follow-requires-clause-before
follow-requires-clause-before c =
    let r = c.requires.before in
    (r.1, subst (λ (v : AreaTreeValue). IsGraphOf r.1 v.area) (sym c.self.view_is) r.3.graph, r.4)

pub repair-requires : goal.repair-requires
repair-requires c =
    let changes = c.in_ok-changes in
    let old : AreaTreeValue = record { area = c.self.inside.area; tree = c.self.inside.tree; spent = c.self.inside.spent } in
    tree_before c.args.self.now old c.self.view_is c.requires.before.3.tree c.follow.new.self.graph c.graph.result.now c.graph.ensures.value changes.changes.gone.items changes.changes.came.items changes.ensures.ends c.graph.ensures.ends changes.ensures.exact changes.ensures.root

no_keys : (keys : List Key) (test : Bool) → test ≡ (length keys == 0) → test ≡ true → keys ≡ []
no_keys keys test is empty = nil_from_length keys (grind (arith, nat_tests))

pub returns-then-is_empty-clause-right : goal.returns-then-is_empty-clause-right
returns-then-is_empty-clause-right c root before ups held =
    let r = c.requires.before in
    let d : Database = c.args.database.now.lsas in
    let inside : AreaTreeValue = record { area = c.self.inside.area; tree = c.self.inside.tree; spent = c.self.inside.spent } in
    let none : DifferAmong r.1 d [] = subst (DifferAmong r.1 d) (no_keys c.args.keys.now c.is_empty.result c.is_empty.ensures c.if-is_empty.true) r.4 in
    let graph : IsGraphOf d inside.area = graph_rests r.1 d none inside.area (subst (λ (v : AreaTreeValue). IsGraphOf r.1 v.area) (sym c.self.view_is) r.3.graph) in
    subst (λ (t : TreeValue). IsAreaTree root d ups (record { area = inside.area; tree = t; spent = inside.spent })) (sym c.mark_unchanged.ensures)
    (rests d root inside graph (subst (IsAreaTree root before ups) (sym c.self.view_is) held))

pub returns-then-is_empty-clause-changed : goal.returns-then-is_empty-clause-changed
returns-then-is_empty-clause-changed c =
    let inside : TreeValue = c.self.inside.tree in
    subst (λ (t : TreeValue). AreChanged c.args.self.now.tree t t.changed) (sym c.mark_unchanged.ensures)
    (subst (λ (v : AreaTreeValue). AreChanged v.tree (rested inside) []) c.self.view_is (none_changed inside))

pub returns-then-is_empty-clause-bounded : goal.returns-then-is_empty-clause-bounded
returns-then-is_empty-clause-bounded c =
    let g = c.self.inside.area.graph in
    let old = c.args.self.now.tree in (
      [],
      [],
      subst (λ (v : AreaTreeValue). AreExact v.area.graph g [] []) c.self.view_is (same_graph g),
      subst (λ (t : Touched). IsBounded g [] [] old t.taken t.hop_sets) (sym c.none.ensures) (no_bounds g old),
    )

pub returns-then-is_empty-clause-work : goal.returns-then-is_empty-clause-work
returns-then-is_empty-clause-work c =
    let g = c.self.inside.area.graph in
    let inside : TreeValue = c.self.inside.tree in
    let old = c.args.self.now.tree in
    subst (λ (t : Touched). IsWorkDone g old c.mark_unchanged.new.self t.taken t.hop_sets) (sym c.none.ensures)
    (subst (λ (t : TreeValue). IsWorkDone g old t 0 0) (sym c.mark_unchanged.ensures)
    (subst (λ (v : AreaTreeValue). IsWorkDone g v.tree (rested inside) 0 0) c.self.view_is (no_work g inside)))
