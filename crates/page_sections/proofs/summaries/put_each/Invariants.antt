use Rattle.std.proofs.Common.{◌≡◌, ◌++◌, string_bytes, take}
use Rattle.std.specs.List.{flat_map}
use Rattle.page_sections.specs.Summaries.{listed_text}
use Rattle.page_sections.proofs.summaries.put_each.Given as goal

abbrev pub invariant-loop-area : goal.invariant-loop-area
invariant-loop-area l = string_bytes l.text ≡ string_bytes l.initial.text ++ flat_map listed_text (take l.area-index l.areas)
