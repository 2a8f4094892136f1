use Rattle.std.proofs.Common.{◌≡◌, ◌+◌, filter, length}
use Rattle.std.specs.FinMap.{entries}
use Rattle.page_sections.specs.Routes.{is_of}
use Rattle.page_sections.proofs.routes.count_of.Given as goal

abbrev pub invariant-loop-item : goal.invariant-loop-item
invariant-loop-item l = l.count + length (filter (is_of l.kind) l.item-iterator) ≡ length (filter (is_of l.kind) (entries l.table.items))
