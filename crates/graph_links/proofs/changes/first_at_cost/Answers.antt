use Rattle.std.proofs.Common.{rules}
use Rattle.std.proofs.lemmas.List.Sorted.{IsPartitionPoint-from_clause}
use Rattle.graph_links.proofs.ByCost.{is_cheaper, parted_cheaper, first_of_tests}
use Rattle.graph_links.proofs.changes.first_at_cost.Goals as goal

pub returns-clause-split : goal.returns-clause-split
returns-clause-split c =
    first_of_tests c.args.cost c.args.links.now c.partition_point.result
    (IsPartitionPoint-from_clause (is_cheaper c.args.cost) c.args.links.now c.partition_point.result c.partition_point.ensures.partitioned (parted_cheaper c.args.cost c.args.links.now c.requires) (λ a r q k. search rules))
