use Rattle.std.proofs.Common.{◌≡◌, ◌++◌, string_bytes, take}
use Rattle.std.specs.List.{flat_map}
use Rattle.page_sections.specs.Summaries.{row_text}
use Rattle.page_sections.proofs.summaries.put_rows.Given as goal

abbrev pub invariant-loop-due : goal.invariant-loop-due
invariant-loop-due l = string_bytes l.text ≡ string_bytes l.initial.text ++ flat_map row_text (take l.due-index l.list)
