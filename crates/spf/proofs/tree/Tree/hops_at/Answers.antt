use Rattle.std.specs.List.Sorted.{IsStrictlySortedBy}
use Rattle.spf.proofs.tree.Tree.hops_at.Goals as goal

pub returns-in-None-clause-in_order : goal.returns-in-None-clause-in_order
unfolding IsStrictlySortedBy
returns-in-None-clause-in_order c = tt
