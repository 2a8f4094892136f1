-- The pieces of a format, as they are written one after the other.
use Rattle.std.proofs.Common.{◌≡◌, ◌∙◌, ◌++◌, List, ℕ, codes, ap, append_assoc}
use Rattle.std.specs.Prelude.{decimal}
use Rattle.std.specs.Int.{w16, w32, to_be_bytes}
use Rattle.hex.specs.Hex.{encode_lower}
use Rattle.output_lines.specs.declared.format.Format.{Format}
use Rattle.output_lines.specs.declared.format.Format.TheVariants.{Text}
use Rattle.ospf_types.specs.declared.lsa.Header.{Header}
use Rattle.ospf_types.specs.Text.{address_text}
use Rattle.route_table.specs.declared.table.Match.{Match}
use Rattle.route_table.specs.Texts.{match_text}
use Rattle.event_core.specs.DueSummary.{DueSummary}
use Rattle.replay.specs.Lines.{lookup_line, due_line, dest_text, header_text}

pub lookup_printed : (old new : List ℕ) (number address serial : ℕ) (found : Match)
    → new ≡ old ++ (decimal number ++ (codes " lookup " ++ (address_text address ++ (codes " " ++ (decimal serial ++ (codes " " ++ (match_text found ++ codes "\n")))))))
    → new ≡ old ++ lookup_line Text number address serial found
lookup_printed old new number address serial found written = written ∙ simp append_assoc

-- the serial is the serial of the table
pub lookup_at : (format : Format) (old new : List ℕ) (number address serial other : ℕ) (found : Match) → serial ≡ other → new ≡ old ++ lookup_line format number address serial found
    → new ≡ old ++ lookup_line format number address other found
lookup_at format old new number address serial other found is written = written ∙ ap (λ (n : ℕ). old ++ lookup_line format number address n found) is

-- the parts of a header, each appended to the text before
pub header_printed : (old front first space second new seq sum : List ℕ) (h : Header)
    → front ≡ old ++ (decimal h.kind ++ (codes " " ++ (address_text h.id ++ (codes " " ++ (address_text h.router ++ codes " "))))) → first ≡ front ++ encode_lower seq → seq ≡ to_be_bytes w32 h.seq
    → space ≡ first ++ codes " " → second ≡ space ++ encode_lower sum → sum ≡ to_be_bytes w16 h.sum → new ≡ second ++ (codes " " ++ decimal h.age) → new ≡ old ++ header_text h
header_printed old front first space second new seq sum h p q seq_is r s sum_is t = t ∙ rw (s, r, q, p, seq_is, sum_is) (simp append_assoc)

-- the parts of the line of a summary
pub due_printed : (old front dest new : List ℕ) (area : ℕ) (due : DueSummary) → front ≡ old ++ (codes "due " ++ (address_text area ++ (codes " " ++ (decimal due.kind ++ codes " "))))
    → dest ≡ front ++ dest_text due.dest → new ≡ dest ++ (codes " " ++ (decimal due.metric ++ codes "\n")) → new ≡ old ++ due_line Text area due
due_printed old front dest new area due p q r = r ∙ rw (q, p) (simp append_assoc)
