-- The lines that a replay prints, in each form.
use Rattle.std.specs.Prelude.{ℕ, ◌≡◌, ◌+◌, ◌++◌, List, All, length, Result, Ok, Err, codes, decimal}
use Rattle.std.specs.Int.{w16, w32, to_be_bytes}
use Rattle.hex.specs.Hex.{encode_lower}
use Rattle.output_lines.specs.declared.format.Format.{Format}
use Rattle.output_lines.specs.declared.format.Format.TheVariants.{Text, Json}
use Rattle.ospf_types.specs.declared.key.Dest.{Dest}
use Rattle.ospf_types.specs.declared.key.Dest.TheVariants.{Net, Router}
use Rattle.ospf_types.specs.declared.key.Scope.{Scope}
use Rattle.ospf_types.specs.declared.lsa.Header.{Header}
use Rattle.ospf_types.specs.Lsa.{Lsa}
use Rattle.ospf_types.specs.Network.{Network}
use Rattle.ospf_types.specs.Text.{address_text, prefix_text, entry_text}
use Rattle.std.specs.List.{flat_map}
use Rattle.event_core.specs.DueSummary.{DueSummary}
use Rattle.event_state.specs.declared.base.Base.{Base}
use Rattle.event_state.specs.declared.refusal.Refusal.{Refusal}
use Rattle.event_state.specs.Texts.{refusal_text}
use Rattle.route_table.specs.declared.table.Item.{Item}
use Rattle.route_table.specs.declared.table.Item.TheVariants as item
use Rattle.route_table.specs.declared.table.Match.{Match}
use Rattle.route_table.specs.Texts.{match_text}
use Rattle.event_core.specs.declared.reply.Reply.{Reply}
use Rattle.event_core.specs.declared.reply.Status.{Status}
use Rattle.event_core.specs.declared.reply.Status.TheVariants.{Current, Behind}
use Rattle.event_core.specs.Cores.{CoreValue}
use Rattle.event_state.specs.declared.event.Event.{Event}
use Rattle.recording.specs.Forms.{Form, IsForm, line_text, scope_text}
use Rattle.recording.specs.Recordings.{RecordingValue, front_forms, forms_of, event_form, ended, text_of_forms}
use Rattle.recording.specs.declared.version.Version.{Version}
use Rattle.output_lines.specs.Members.{json_line}
use Rattle.replay.specs.JsonLines.{lookup_data, refused_data, behind_data, serial_data, item_data, shown_due_data, lsa_data, recorded_data}

-- the number, in its recording, of the first line after the base
abbrev pub first_number : Version → Base → ℕ
first_number v base = length (front_forms v base) + 1

-- the match of the address in the table of this serial
abbrev pub lookup_line : Format → (number address serial : ℕ) → Match → List ℕ
lookup_line Text number address serial found =
    decimal number ++ codes " lookup " ++ address_text address ++ codes " " ++ decimal serial ++ codes " " ++ match_text found ++ codes "\n"
lookup_line Json number address serial found = json_line (lookup_data (record { line = number; address = address; serial = serial }) found)

abbrev pub refused_line : Format → ℕ → Refusal → List ℕ
refused_line Text number refusal = decimal number ++ codes " refused " ++ refusal_text refusal ++ codes "\n"
refused_line Json number refusal = json_line (refused_data number refusal)

abbrev pub behind_line : Format → ℕ → List ℕ
behind_line Text number = decimal number ++ codes " behind\n"
behind_line Json number = json_line (behind_data number)

-- nothing if the table reflects the present state
abbrev pub standing_line : Format → ℕ → Status → List ℕ
standing_line format number Current = codes ""
standing_line format number Behind = behind_line format number

-- the printed line for the answer to an event
abbrev pub answer_line : Format → ℕ → Result Reply Refusal → List ℕ
answer_line format number (Ok reply) = standing_line format number reply.state
answer_line format number (Err refusal) = refused_line format number refusal

-- the printed line for the answer to a roll: nothing if it was carried out
abbrev pub roll_line : Format → ℕ → Result ℕ Refusal → List ℕ
roll_line format number (Ok serial) = codes ""
roll_line format number (Err refusal) = refused_line format number refusal

-- the number of events taken, and the number of those that the table reflects
abbrev pub counts_line : Format → (serial built : ℕ) → List ℕ
counts_line Text serial built = codes "serial " ++ decimal serial ++ codes " built " ++ decimal built ++ codes "\n"
counts_line Json serial built = json_line (serial_data serial built)

-- the serial, and that of the event which the table is after
abbrev pub serial_line : Format → CoreValue → List ℕ
serial_line format c = counts_line format (c.base.serial + length c.journal) (c.base.serial + c.built)

-- a network with its route, or with a discard
abbrev pub item_line : Format → Network × Item → List ℕ
item_line Text (p, item.Route entry) = codes "route " ++ prefix_text p ++ codes " " ++ entry_text entry ++ codes "\n"
item_line Text (p, item.Discard) = codes "discard " ++ prefix_text p ++ codes "\n"
item_line Json (p, i) = json_line (item_data p i)

-- a network, or an AS boundary router
abbrev pub dest_text : Dest → List ℕ
dest_text (Net p) = prefix_text p
dest_text (Router router) = address_text router

-- a summary that is due in the area
abbrev pub due_line : Format → ℕ → DueSummary → List ℕ
due_line Text area due =
    codes "due " ++ address_text area ++ codes " " ++ decimal due.kind ++ codes " " ++ dest_text due.dest ++ codes " " ++ decimal due.metric ++ codes "\n"
due_line Json area due = json_line (shown_due_data area due)

-- the summaries due in an area
abbrev pub area_lines : Format → ℕ × List DueSummary → List ℕ
area_lines format e = flat_map (due_line format e.0) e.1

-- the key, and the fields that identify an instance: sequence number, checksum and present age
abbrev pub header_text : Header → List ℕ
header_text h =
    decimal h.kind ++ codes " " ++ address_text h.id ++ codes " " ++ address_text h.router ++ codes " " ++ encode_lower (to_be_bytes w32 h.seq) ++ codes " " ++ encode_lower (to_be_bytes w16 h.sum) ++ codes " " ++ decimal h.age

abbrev pub lsa_line : Format → Scope × Lsa → List ℕ
lsa_line Text p = codes "lsa " ++ scope_text p.0 ++ codes " " ++ header_text p.1.header ++ codes "\n"
lsa_line Json p = json_line (lsa_data p.0 p.1.header)

-- ---- lines of a recording

-- such a line as an object
abbrev pub recorded_line : Form → List ℕ
recorded_line form = json_line (recorded_data (line_text form))

-- the event as a line of a recording
abbrev pub event_line : Format → Event → List ℕ
event_line Text e = ended (event_form e)
event_line Json e = recorded_line (event_form e)

-- lines of a recording, one after the other
abbrev pub forms_text : Format → List Form → List ℕ
forms_text Text forms = text_of_forms forms
forms_text Json forms = flat_map recorded_line forms

-- the lines of the recording
abbrev pub recorded_text : Format → RecordingValue → List ℕ
recorded_text format r = forms_text format (forms_of r)

-- the text of lines of a recording
pub record IsTextOf (text : List ℕ) (forms : List Form) : Type 0 where
  pub spelled : text ≡ text_of_forms forms
  pub legal : All IsForm forms
