use Rattle.std.proofs.Common.{sym, subst}
use Rattle.std.specs.Prelude.{OnOk}
use Rattle.spf.specs.TreeValues.{TreeValue, AreOthersKept}
use Rattle.spf.proofs.tree.Tree.repair.Goals as goal

pub returns-in-Ok-clause-others : goal.returns-in-Ok-clause-others
returns-in-Ok-clause-others c =
    let made = c.repair_parts-repaired in
    subst (λ (t : TreeValue). OnOk made.result (AreOthersKept c.args.self.now t)) (sym c.self.view_is)
    (subst (λ (t : TreeValue). OnOk made.result (AreOthersKept t made.new.self)) c.trim.ensures made.ensures.others)
