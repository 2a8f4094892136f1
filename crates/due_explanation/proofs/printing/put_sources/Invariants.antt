use Rattle.std.proofs.Common.{◌≡◌, ◌++◌, string_bytes, take}
use Rattle.std.specs.List.{flat_map}
use Rattle.due_explanation.specs.Lines.{due_source_line}
use Rattle.due_explanation.proofs.printing.put_sources.Given as goal

abbrev pub invariant-loop-source : goal.invariant-loop-source
invariant-loop-source l = string_bytes l.text ≡ string_bytes l.initial.text ++ flat_map (due_source_line l.fn.format) (take l.source-index l.sources)
