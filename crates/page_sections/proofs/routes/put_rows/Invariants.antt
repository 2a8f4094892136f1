use Rattle.std.proofs.Common.{◌≡◌, ◌++◌, string_bytes}
use Rattle.std.specs.List.{flat_map}
use Rattle.std.specs.FinMap.{entries}
use Rattle.page_sections.specs.Routes.{row_text}
use Rattle.page_sections.proofs.routes.put_rows.Given as goal

abbrev pub invariant-loop-network : goal.invariant-loop-network
invariant-loop-network l = string_bytes l.text ++ flat_map row_text l.network-iterator ≡ string_bytes l.initial.text ++ flat_map row_text (entries l.table.items)
