use Rattle.std.proofs.Common.{◌≡◌, ◌++◌, drop}
use Rattle.publication.specs.Updates.{gifts, those_of}
use Rattle.publication.proofs.publishing.append_networks.Given as goal

abbrev pub invariant-loop-network : goal.invariant-loop-network
invariant-loop-network l =
    (l.writer.desk ≡ l.initial.writer.desk)
    × (drop l.writer.behind l.writer.log.items ++ gifts (those_of l.table.items (drop l.network-index l.networks)) ≡ drop l.initial.writer.behind l.initial.writer.log.items ++ gifts (those_of l.table.items l.networks))
