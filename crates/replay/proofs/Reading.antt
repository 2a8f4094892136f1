-- A recording that was read has few enough lines to be numbered.
use Rattle.std.proofs.Common.{◌≡◌, ℕ, ◌<◌, ◌≤◌, ◌+◌, ◌^◌, List, [], ◌∷◌, length, map, drop, Option, ap, refl, subst, sym, arith}
use Rattle.std.proofs.lemmas.List.{length-append, length-map}
use Rattle.std.specs.List.{flat_map}
use Rattle.std.specs.Io.KnownBytes.{Consumes, IsAtEnd}
use Rattle.recording.specs.Forms.{Form, line_text}
use Rattle.event_state.specs.declared.base.Base.{Base}
use Rattle.recording.specs.declared.version.Version.{Version}
use Rattle.recording.specs.declared.version.Version.TheVariants.{One, Two, Three}
use Rattle.recording.specs.Places.{first_lines}
use Rattle.recording.specs.Recordings.{RecordingValue, IsText, text_of_forms, area_forms, first_forms, header_forms, has_forms, front_forms, interface_form, lsa_form, forms_of, form_of, ended}
use Rattle.replay.specs.Lines.{first_number}
use Rattle.replay.specs.Parts.{IsParsed, IsRecordingRead}

-- each line has a line feed
forms_fit : (forms : List Form) → length forms ≤ length (text_of_forms forms)
forms_fit [] = omega arith
forms_fit (form ∷ forms) = omega (arith, forms_fit forms, length-append (ended form) (text_of_forms forms), length-append (line_text form) (10 ∷ []))

lines_fit : (bytes : List ℕ) (r : RecordingValue) → IsText bytes r → first_number r.version r.base + length r.lines ≤ length bytes + 1
lines_fit bytes r text =
    omega (arith, forms_fit (forms_of r), length-append (front_forms r.version r.base) (map form_of r.lines), length-map r.lines form_of, ap length text.spelled)

first_length : (v : Version) (base : Base) → length (first_forms v base) ≡ first_lines v
first_length One base = refl
first_length Two base = refl
first_length Three base = refl

-- a line for each interface, and one for each LSA
pub has_length : (base : Base) → length (has_forms base) ≡ length base.interfaces + length base.lsas
has_length base =
    omega (arith, length-append (map interface_form base.interfaces) (map lsa_form base.lsas), length-map base.interfaces interface_form, length-map base.lsas lsa_form)

-- the lines that come first, those of the areas, and those of interfaces and LSAs
pub front_length : (v : Version) (base : Base) → (first_lines v + 1) + length (flat_map area_forms base.config.areas) + length (has_forms base) ≡ first_number v base
front_length v base =
    omega (arith, first_length v base, length-append (first_forms v base) (flat_map area_forms base.config.areas), length-append (header_forms v base) (has_forms base))

-- the bytes are the text of the recording
pub is_parsed : (bytes : List ℕ) (r : RecordingValue) → IsText bytes r → length bytes < 2 ^ 63 → IsParsed bytes r
is_parsed bytes r text small = let bound = lines_fit bytes r text in record { text = text; few = omega (arith, bound) }

-- the bytes that were read are alone in the buffer, are all, and are the text of the recording
pub is_read : (before after : Option (List ℕ)) (old new bytes : List ℕ) (r : RecordingValue) → old ≡ [] → bytes ≡ new → Consumes before after (drop (length old) new) → IsAtEnd after → IsParsed bytes r → IsRecordingRead before after r
is_read before after old new bytes r none same read end is = record {
  bytes = bytes;
  read = record { read = subst (λ l. Consumes before after l) (sym same) (subst (λ l. Consumes before after (drop (length l) new)) none read); end = end };
  text = is.text;
  few = is.few;
}
