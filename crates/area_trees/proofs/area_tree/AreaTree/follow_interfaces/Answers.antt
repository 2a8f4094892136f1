use Rattle.std.proofs.Common.{refl, sym, subst}
use Rattle.std.proofs.lemmas.Result.{on_ok_weaker}
use Rattle.vertex_graph.specs.Graphs.{GraphValue}
use Rattle.spf.specs.TreeValues.{IsTreeOf}
use Rattle.area_trees.specs.Areas.{AreaTreeValue, IsAreaTree}
use Rattle.area_trees.proofs.AreaTrees.{tree_before, tree_after}
use Rattle.area_trees.proofs.area_tree.AreaTree.follow_interfaces.Goals as goal

pub repair-requires : goal.repair-requires
repair-requires c =
    let changes = c.in_ok-changes in
    let old : AreaTreeValue = record { area = c.self.inside.area; tree = c.self.inside.tree; spent = c.self.inside.spent } in
    tree_before c.args.self.now old c.self.view_is c.requires.3.tree c.interfaces.new.self.graph c.graph.result.now c.graph.ensures.value changes.changes.gone.items changes.changes.came.items changes.ensures.ends c.graph.ensures.ends changes.ensures.exact changes.ensures.root

pub returns-clause-right : goal.returns-clause-right
returns-clause-right c =
    let changes = c.in_ok-changes in
    let old : AreaTreeValue = record { area = c.self.inside.area; tree = c.self.inside.tree; spent = c.self.inside.spent } in
    let new : AreaTreeValue = record { area = c.interfaces.new.self; tree = c.repair.new.self; spent = c.self.inside.spent } in
    on_ok_weaker c.repair.result
    (λ tree root d ups was.
    let is = subst (IsAreaTree root d ups) (sym c.self.view_is) was in
    tree_after c.args.self.now old new c.self.view_is was (changes.ensures.right d is.graph) changes.ensures.root changes.ensures.interfaces (subst (λ (g : GraphValue). IsTreeOf g c.repair.new.self) c.graph.ensures.value tree) refl)
    c.repair.ensures.tree
