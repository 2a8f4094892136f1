use Rattle.std.proofs.Common.{sym, subst}
use Rattle.std.specs.Prelude.{OnOk}
use Rattle.spf.specs.TreeValues.{AreOthersKept}
use Rattle.area_trees.specs.Areas.{AreaTreeValue}
use Rattle.area_trees.proofs.AreaTrees.{not_spent, where_ok}
use Rattle.area_trees.proofs.area_tree.AreaTree.interfaces.Goals as goal

pub returns-clause-right : goal.returns-clause-right
returns-clause-right c =
    let inside : AreaTreeValue = record { area = c.self.inside.area; tree = c.self.inside.tree; spent = c.self.inside.spent } in
    let test = c.is_err-self-inside in
    where_ok c.follow_interfaces-touched.result test.result _ _ test.ensures.value (λ fresh right root d ups was. not_spent c.follow_interfaces-touched.new.self inside test.result c.self.view_is fresh (right root d ups was)) c.follow_interfaces-touched.ensures.right

pub returns-clause-others : goal.returns-clause-others
returns-clause-others c =
    subst (λ (v : AreaTreeValue). OnOk c.follow_interfaces-touched.result (AreOthersKept c.args.self.now.tree v.tree)) (sym c.self.view_is) c.follow_interfaces-touched.ensures.others
