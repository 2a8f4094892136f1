use Rattle.std.proofs.Common.{◌≡◌, ◌++◌}
use Rattle.std.specs.List.{filter_map}
use Rattle.std.specs.FinMap.{entries}
use Rattle.page_sections.specs.Ranges.{counted_in}
use Rattle.page_sections.proofs.ranges.networks_in.Given as goal

abbrev pub invariant-loop-network : goal.invariant-loop-network
invariant-loop-network l =
    let counts = counted_in l.area l.range in
    l.networks.items ++ filter_map counts l.network-iterator ≡ filter_map counts (entries l.table.items)
