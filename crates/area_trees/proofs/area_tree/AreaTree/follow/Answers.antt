use Rattle.std.proofs.Common.{sym, subst}
use Rattle.std.specs.Prelude.{OnOk}
use Rattle.spf.specs.TreeValues.{AreOthersKept}
use Rattle.area_trees.specs.Areas.{AreaTreeValue}
use Rattle.area_trees.proofs.AreaTrees.{not_spent, where_ok}
use Rattle.area_trees.proofs.area_tree.AreaTree.follow.Goals as goal

pub returns-clause-right : goal.returns-clause-right
returns-clause-right c =
    let inside : AreaTreeValue = record { area = c.self.inside.area; tree = c.self.inside.tree; spent = c.self.inside.spent } in
    let test = c.is_err-self-inside in
    where_ok c.follow_keys-touched.result test.result _ _ test.ensures.value (λ fresh right root before ups was. not_spent c.follow_keys-touched.new.self inside test.result c.self.view_is fresh (right root before ups was)) c.follow_keys-touched.ensures.right

pub returns-clause-others : goal.returns-clause-others
returns-clause-others c =
    subst (λ (v : AreaTreeValue). OnOk c.follow_keys-touched.result (AreOthersKept c.args.self.now.tree v.tree)) (sym c.self.view_is) c.follow_keys-touched.ensures.others
