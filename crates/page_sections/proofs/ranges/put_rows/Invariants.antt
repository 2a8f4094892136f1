use Rattle.std.proofs.Common.{◌≡◌, ◌++◌, string_bytes, take}
use Rattle.std.specs.List.{flat_map}
use Rattle.page_sections.specs.Ranges.{network_row}
use Rattle.page_sections.proofs.ranges.put_rows.Given as goal

abbrev pub invariant-loop-network : goal.invariant-loop-network
invariant-loop-network l = string_bytes l.text ≡ string_bytes l.initial.text ++ flat_map network_row (take l.network-index l.networks)
