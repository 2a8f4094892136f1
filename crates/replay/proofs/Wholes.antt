-- Whole lines, and what a stop leaves.
use Rattle.std.proofs.Common.{◌≡◌, ◌∙◌, ◌+◌, ℕ, List, [], ◌∷◌, ◌++◌, length, codes, refl, sym, ap, subst, inl, inr, append_assoc, append-nil, arith}
use Rattle.std.specs.Prelude.{Result, Ok, Err, decimal}
use Rattle.std.specs.List.{flat_map}
use Rattle.std.proofs.lemmas.List.{length-append, nil_from_length}
use Rattle.output_lines.specs.declared.format.Format.{Format}
use Rattle.output_lines.specs.declared.format.Format.TheVariants.{Text, Json}
use Rattle.ospf_types.specs.declared.key.Scope.{Scope}
use Rattle.ospf_types.specs.Lsa.{Lsa}
use Rattle.ospf_types.specs.Network.{Network}
use Rattle.ospf_types.specs.Text.{address_text, prefix_text, entry_text}
use Rattle.event_state.specs.declared.event.Event.{Event}
use Rattle.event_state.specs.declared.refusal.Refusal.{Refusal}
use Rattle.event_state.specs.Texts.{refusal_text}
use Rattle.route_table.specs.declared.table.Item.{Item}
use Rattle.route_table.specs.declared.table.Item.TheVariants as item
use Rattle.route_table.specs.declared.table.Match.{Match}
use Rattle.route_table.specs.Texts.{match_text}
use Rattle.event_core.specs.declared.reply.Reply.{Reply}
use Rattle.event_core.specs.declared.reply.Status.{Status}
use Rattle.event_core.specs.declared.reply.Status.TheVariants.{Current, Behind}
use Rattle.event_core.specs.Cores.{CoreValue}
use Rattle.event_core.specs.DueSummary.{DueSummary}
use Rattle.recording.specs.Forms.{Form, line_text, scope_text}
use Rattle.recording.specs.Recordings.{event_form, ended}
use Rattle.serde_json.specs.Data.{Data}
use Rattle.serde_json.specs.Written.{compact_text}
use Rattle.output_lines.specs.Members.{json_line}
use Rattle.replay.specs.JsonLines.{lookup_data, refused_data, behind_data, serial_data, item_data, shown_due_data, lsa_data, recorded_data}
use Rattle.replay.specs.declared.buffer.PrintError.{PrintError}
use Rattle.replay.specs.declared.buffer.PrintError.TheVariants as stop
use Rattle.replay.specs.Lines.{lookup_line, behind_line, refused_line, answer_line, roll_line, standing_line, counts_line, serial_line, item_line, due_line, dest_text, lsa_line, header_text, recorded_line, event_line, forms_text}
use Rattle.replay.specs.Stops.{IsEnded, AreWholeLines, IsLeft}

pub none_whole : AreWholeLines []
none_whole = inl refl

line_ended : (front : List ℕ) → IsEnded (front ++ codes "\n")
line_ended front = record { front = front; ends = refl }

ends_behind : (a b : List ℕ) → IsEnded b → IsEnded (a ++ b)
ends_behind a b h = record { front = a ++ h.front; ends = ap (λ l. a ++ l) h.ends ∙ sym (append_assoc a h.front (10 ∷ [])) }

pub append_whole : (a b : List ℕ) → AreWholeLines a → AreWholeLines b → AreWholeLines (a ++ b)
append_whole a b whole (inl none) = subst AreWholeLines (sym (ap (λ l. a ++ l) none ∙ append-nil a)) whole
append_whole a b whole (inr ends) = inr (ends_behind a b ends)

none_behind : (a b : List ℕ) → a ++ b ≡ [] → b ≡ []
none_behind a b none = nil_from_length b (omega (arith, length-append a b, ap length none))

-- a suffix of whole lines ends where they end: it is whole too
pub end_whole : (a b : List ℕ) → AreWholeLines (a ++ b) → AreWholeLines b
end_whole [] b h = h
end_whole (x ∷ a) b (inl none) = inl (none_behind (x ∷ a) b none)
end_whole (x ∷ a) b (inr h) = later (end_whole a b) h.front h.ends
  where
    later : (AreWholeLines (a ++ b) → AreWholeLines b) → (front : List ℕ) → x ∷ (a ++ b) ≡ front ++ 10 ∷ [] → AreWholeLines b
    later shorter [] is = inl (none_behind a b (cc is))
    later shorter (y ∷ front) is = shorter (inr (record { front = front; ends = cc is }))

pub flat_whole : {A : Type 0} (line : A → List ℕ) → ((x : A) → AreWholeLines (line x)) → (xs : List A) → AreWholeLines (flat_map line xs)
flat_whole line each [] = none_whole
flat_whole line each (x ∷ xs) = append_whole (line x) (flat_map line xs) (each x) (flat_whole line each xs)

-- ---- what a stop leaves

pub left_longer : (why : PrintError) (text rest more : List ℕ) → IsLeft why text rest → IsLeft why text (rest ++ more)
left_longer stop.Write text rest more h = λ none. h (nil_from_length rest (omega (arith, length-append rest more, ap length none)))
left_longer stop.Closed text rest more h = λ none. h (nil_from_length rest (omega (arith, length-append rest more, ap length none)))
left_longer stop.Memory text rest more h = h

pub left_behind : (why : PrintError) (front text rest : List ℕ) → AreWholeLines front → IsLeft why text rest → IsLeft why (front ++ text) rest
left_behind stop.Write front text rest whole h = h
left_behind stop.Closed front text rest whole h = h
left_behind stop.Memory front text rest whole h = append_whole front text whole h

-- ---- the lines that are printed

pub object_whole : (d : Data) → AreWholeLines (json_line d)
object_whole d = inr (record { front = compact_text d; ends = refl })

pub lookup_whole : (format : Format) (number address serial : ℕ) (found : Match) → AreWholeLines (lookup_line format number address serial found)
lookup_whole Text number address serial found =
    inr (line_ended (decimal number ++ codes " lookup " ++ address_text address ++ codes " " ++ decimal serial ++ codes " " ++ match_text found))
lookup_whole Json number address serial found = object_whole (lookup_data (record { line = number; address = address; serial = serial }) found)

pub behind_whole : (format : Format) (number : ℕ) → AreWholeLines (behind_line format number)
behind_whole Text number = inr (ends_behind (decimal number) (codes " behind\n") (line_ended (codes " behind")))
behind_whole Json number = object_whole (behind_data number)

pub refused_whole : (format : Format) (number : ℕ) (refusal : Refusal) → AreWholeLines (refused_line format number refusal)
refused_whole Text number refusal = inr (line_ended (decimal number ++ codes " refused " ++ refusal_text refusal))
refused_whole Json number refusal = object_whole (refused_data number refusal)

standing_whole : (format : Format) (number : ℕ) (state : Status) → AreWholeLines (standing_line format number state)
standing_whole format number Current = none_whole
standing_whole format number Behind = behind_whole format number

pub answer_whole : (format : Format) (number : ℕ) (answer : Result Reply Refusal) → AreWholeLines (answer_line format number answer)
answer_whole format number (Ok reply) = standing_whole format number reply.state
answer_whole format number (Err refusal) = refused_whole format number refusal

pub roll_whole : (format : Format) (number : ℕ) (answer : Result ℕ Refusal) → AreWholeLines (roll_line format number answer)
roll_whole format number (Ok serial) = none_whole
roll_whole format number (Err refusal) = refused_whole format number refusal

counts_whole : (format : Format) (serial built : ℕ) → AreWholeLines (counts_line format serial built)
counts_whole Text serial built = inr (line_ended (codes "serial " ++ decimal serial ++ codes " built " ++ decimal built))
counts_whole Json serial built = object_whole (serial_data serial built)

pub serial_whole : (format : Format) (c : CoreValue) → AreWholeLines (serial_line format c)
serial_whole format c = counts_whole format (c.base.serial + length c.journal) (c.base.serial + c.built)

pub item_whole : (format : Format) (e : Network × Item) → AreWholeLines (item_line format e)
item_whole Text (p, item.Route entry) = inr (line_ended (codes "route " ++ prefix_text p ++ codes " " ++ entry_text entry))
item_whole Text (p, item.Discard) = inr (line_ended (codes "discard " ++ prefix_text p))
item_whole Json (p, i) = object_whole (item_data p i)

pub due_whole : (format : Format) (area : ℕ) (due : DueSummary) → AreWholeLines (due_line format area due)
due_whole Text area due =
    inr (line_ended (codes "due " ++ address_text area ++ codes " " ++ decimal due.kind ++ codes " " ++ dest_text due.dest ++ codes " " ++ decimal due.metric))
due_whole Json area due = object_whole (shown_due_data area due)

pub lsa_whole : (format : Format) (p : Scope × Lsa) → AreWholeLines (lsa_line format p)
lsa_whole Text p = inr (line_ended (codes "lsa " ++ scope_text p.0 ++ codes " " ++ header_text p.1.header))
lsa_whole Json p = object_whole (lsa_data p.0 p.1.header)

form_whole : (form : Form) → AreWholeLines (ended form)
form_whole form = inr (record { front = line_text form; ends = refl })

pub recorded_whole : (form : Form) → AreWholeLines (recorded_line form)
recorded_whole form = object_whole (recorded_data (line_text form))

pub event_whole : (format : Format) (e : Event) → AreWholeLines (event_line format e)
event_whole Text e = form_whole (event_form e)
event_whole Json e = recorded_whole (event_form e)

pub forms_whole : (format : Format) (forms : List Form) → AreWholeLines (forms_text format forms)
forms_whole Text forms = flat_whole ended form_whole forms
forms_whole Json forms = flat_whole recorded_line recorded_whole forms
