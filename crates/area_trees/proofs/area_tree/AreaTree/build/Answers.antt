use Rattle.std.proofs.Common.{List, ap, refl, sym, subst, ◌∙◌}
use Rattle.std.specs.FinMap.{empty}
use Rattle.ospf_types.specs.declared.key.Key.{Key}
use Rattle.vertex_graph.specs.Graphs.{GraphValue}
use Rattle.spf.specs.TreeValues.{IsTreeOf, IsWorkForAll}
use Rattle.area_trees.specs.Areas.{DifferAmong}
use Rattle.area_trees.proofs.AreaGraphs.{differ_from_none}
use Rattle.area_trees.proofs.area_tree.AreaTree.build.Goals as goal

pub follow-requires-clause-before : goal.follow-requires-clause-before
follow-requires-clause-before c =
    let d = c.args.database.now in
    (empty, c.new-area.ensures.right, subst (λ (ks : List Key). DifferAmong empty d.lsas ks) (sym c.keys.ensures.value) (differ_from_none d c.keys.ensures.ordered))

pub returns-clause-right : goal.returns-clause-right
returns-clause-right c =
    let follow = c.in_ok-follow.ensures in
    let interfaces = c.in_ok-interfaces.ensures in
    record {
      graph = interfaces.right c.args.database.now.lsas follow.right;
      root_is = interfaces.root ∙ follow.root ∙ ap (λ (g : GraphValue). g.root) c.new-area.ensures.graph;
      interfaces = interfaces.interfaces;
      tree = subst (λ (g : GraphValue). IsTreeOf g c.in_ok-tree.tree) c.graph.ensures.value c.in_ok-tree.ensures.tree;
      fresh = refl;
    }

pub returns-clause-work : goal.returns-clause-work
returns-clause-work c =
    let touched = c.in_ok-tree.touched in
    subst (λ (g : GraphValue). IsWorkForAll g c.in_ok-tree.tree touched.taken touched.hop_sets) c.graph.ensures.value c.in_ok-tree.ensures.work
