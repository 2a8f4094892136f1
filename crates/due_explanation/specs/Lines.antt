-- The explanation of a summary in an area, line by line, in each form.
use Rattle.std.specs.Prelude.{ℕ, ◌++◌, List, codes}
use Rattle.std.specs.List.{flat_map}
use Rattle.output_lines.specs.declared.format.Format.{Format}
use Rattle.output_lines.specs.declared.format.Format.TheVariants.{Text, Json}
use Rattle.ospf_types.specs.declared.key.Dest.{Dest}
use Rattle.output_lines.specs.Members.{json_line}
use Rattle.due_explanation.specs.declared.due.DueExplained.{DueExplained}
use Rattle.due_explanation.specs.declared.due.DueSource.{DueSource}
use Rattle.due_explanation.specs.ReasonLines.{sources_of}
use Rattle.due_explanation.specs.Words.{due_words, due_source_words}
use Rattle.due_explanation.specs.Objects.{due_line_data, due_source_data}

-- if the summary is due, and the reason
abbrev pub due_line : Format → (area : ℕ) → Dest → DueExplained → List ℕ
due_line Text area d x = due_words area d x ++ codes "\n"
due_line Json area d x = json_line (due_line_data area d x)

-- a source, and what becomes of it
abbrev pub due_source_line : Format → DueSource → List ℕ
due_source_line Text s = due_source_words s ++ codes "\n"
due_source_line Json s = json_line (due_source_data s)

-- if the summary is due, and then each of its sources, in their order
abbrev pub due_explanation_text : Format → (area : ℕ) → Dest → DueExplained → List ℕ
due_explanation_text format area d x = due_line format area d x ++ flat_map (due_source_line format) (sources_of x.reason)
