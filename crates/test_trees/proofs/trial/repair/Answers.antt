use Rattle.std.proofs.Common.{sym, ◌∙◌}
use Rattle.vertex_graph.proofs.Deciding.{link_decided}
use Rattle.spf.proofs.Caller.{right_before}
use Rattle.test_trees.proofs.trial.repair.Goals as goal

pub repair-requires : goal.repair-requires
repair-requires c =
    let r = c.requires in
    right_before (link_decided r.before r.changes.ends) (link_decided c.args.graph.now c.root.ensures.ends) r.changes.exact r.changes.root (r.tree (sym c.spent.ensures ∙ c.if-spent.false))
