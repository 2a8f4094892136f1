use Rattle.std.proofs.Common.{◌≡◌, ◌++◌, string_bytes, take}
use Rattle.std.specs.List.{flat_map}
use Rattle.std.specs.FinMap.{entries}
use Rattle.page_sections.specs.Ranges.{range_text}
use Rattle.page_sections.proofs.ranges.put_each.Given as goal

abbrev pub invariant-loop-range : goal.invariant-loop-range
invariant-loop-range l = string_bytes l.text ≡ string_bytes l.initial.text ++ flat_map (range_text (entries l.table.items) l.area) (take l.range-index l.ranges)
