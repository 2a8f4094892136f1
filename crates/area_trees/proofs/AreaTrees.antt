-- Graph and tree of an area stay together through a change.
use Rattle.std.proofs.Common.{◌≡◌, ℕ, Bool, false, List, Result, Ok, Err, sym, ap, subst, ◌∙◌}
use Rattle.std.specs.Prelude.{OnOk, is_err}
use Rattle.lsdb.specs.Databases.{Database}
use Rattle.vertex_graph.specs.GraphLink.{GraphLink}
use Rattle.vertex_graph.specs.Up.{Up}
use Rattle.vertex_graph.specs.Graphs.{GraphValue, AreExact, HasEnds}
use Rattle.vertex_graph.proofs.Deciding.{link_decided}
use Rattle.spf.specs.TreeValues.{IsTreeOf, IsTreeBefore}
use Rattle.spf.proofs.Caller.{right_before}
use Rattle.area_trees.specs.Areas.{AreaTreeValue, IsAreaTree, IsGraphOf}

-- the tree of the graph before is right before the changes
pub tree_before : (was inside : AreaTreeValue) → inside ≡ was → IsTreeOf was.area.graph was.tree → (new graph : GraphValue) → graph ≡ new → (gone come : List GraphLink)
    → HasEnds inside.area.graph → HasEnds new → AreExact inside.area.graph new gone come → new.root ≡ inside.area.graph.root → IsTreeBefore graph gone come inside.tree
tree_before was inside view_is tree new graph graph_is gone come ends ends_after exact root =
    subst (λ (g : GraphValue). IsTreeBefore g gone come inside.tree) (sym graph_is)
    (right_before (link_decided inside.area.graph ends) (link_decided new ends_after) exact (sym root) (subst (λ (v : AreaTreeValue). IsTreeOf v.area.graph v.tree) (sym view_is) tree))

-- all that the parts say once the tree was repaired
pub tree_after : {root : ℕ} {before after : Database} {ups ups_after : List Up} (was inside new : AreaTreeValue) → inside ≡ was → IsAreaTree root before ups was → IsGraphOf after new.area
    → new.area.graph.root ≡ inside.area.graph.root → new.area.graph.interfaces ≡ ups_after → IsTreeOf new.area.graph new.tree → new.spent ≡ inside.spent → IsAreaTree root after ups_after new
tree_after was inside new view_is is graph root interfaces tree spent = record {
  graph = graph;
  root_is = root ∙ ap (λ (v : AreaTreeValue). v.area.graph.root) view_is ∙ is.root_is;
  interfaces = interfaces;
  tree = tree;
  fresh = spent ∙ ap (λ (v : AreaTreeValue). v.spent) view_is ∙ is.fresh;
}

-- if a change has its memory, all is as the parts left it, and not spent
pub not_spent : {root : ℕ} {d : Database} {ups : List Up} (parts inside : AreaTreeValue) (spent : Bool) → inside ≡ parts → spent ≡ false → IsAreaTree root d ups parts → IsAreaTree root d ups (record { area = inside.area; tree = inside.tree; spent = spent })
not_spent {root} {d} {ups} parts inside spent view_is fresh is =
    let there = subst (IsAreaTree root d ups) (sym view_is) is in
    record { graph = there.graph; root_is = there.root_is; interfaces = there.interfaces; tree = there.tree; fresh = fresh }

-- where the result is no error
pub where_ok : {T E : Type 0} (r : Result T E) (b : Bool) (P Q : Type 0) → b ≡ is_err r → (b ≡ false → P → Q) → OnOk r P → OnOk r Q
where_ok (Ok x) b P Q is then p = then is p
where_ok (Err e) b P Q is then p = p
