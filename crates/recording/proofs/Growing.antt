-- A recording to which lines come.
use Rattle.std.proofs.Common.{ℕ, ◌≡◌, ◌≢◌, ◌+◌, ◌==◌, ◌++◌, List, [], ◌∷◌, false, length, map, All, refl, sym, ap, subst, ◌∙◌, arith, append_assoc, append-nil}
use Rattle.std.proofs.lemmas.Bool.{ne_eqb}
use Rattle.std.proofs.lemmas.List.{map-append}
use Rattle.std.proofs.lemmas.List.Concat.{flat_map-append}
use Rattle.std.proofs.lemmas.List.Elements.{All-nil, All-cons, All-head, All-tail, All-push}
use Rattle.std.proofs.lemmas.List.Splits.{slice_split_at, slice_split_none}
use Rattle.recording.specs.declared.fault.Fault.{Fault}
use Rattle.recording.specs.declared.fault.Fault.TheVariants as fault
use Rattle.recording.specs.declared.line.Line.{Line}
use Rattle.recording.specs.Faults.{IsFaultOf}
use Rattle.recording.specs.Forms.{Form, IsForm, line_text}
use Rattle.recording.specs.Progress.{IsFaultBehind, IsLineOf}
use Rattle.recording.specs.Recordings.{RecordingValue, HasWholeLsa, IsText, ended, form_of, forms_of, front_forms, text_of, text_of_forms}
use Rattle.recording.proofs.AllSaid.{said_length}
use Rattle.recording.proofs.LineSteps.{cut_behind, fault_behind, kept_push}
use Rattle.recording.proofs.Only.{Lined, parts_and_more, run_to}

-- the recording, and one more line of what happened
abbrev pub grown : RecordingValue → Line → RecordingValue
grown r l = record r { lines = r.lines ++ l ∷ [] }

forms_grow : (r : RecordingValue) (l : Line) → forms_of (grown r l) ≡ forms_of r ++ form_of l ∷ []
forms_grow r l =
    let front : List Form = front_forms r.version r.base in
    ap (λ (fs : List Form). front ++ fs) (map-append form_of r.lines (l ∷ [])) ∙ sym (append_assoc front (map form_of r.lines) (form_of l ∷ []))

text_push : (fs : List Form) (form : Form) → text_of_forms (fs ++ form ∷ []) ≡ text_of_forms fs ++ ended form
text_push fs form =
    flat_map-append ended fs (form ∷ []) ∙ ap (λ (t : List ℕ). text_of_forms fs ++ t) (append-nil (ended form))

-- ---- a line that is read after the others is one more of the recording

pub text_grows : {bytes line : List ℕ} {r : RecordingValue} {l : Line} → IsText bytes r → IsLineOf r.version line l → IsText (bytes ++ (line ++ 10 ∷ [])) (record r { lines = r.lines ++ l ∷ [] })
text_grows {bytes} {line} {r} {l} h of = record {
  spelled =
      ap (λ (t : List ℕ). t ++ (line ++ 10 ∷ [])) h.spelled
      ∙ ap (λ (t : List ℕ). text_of r ++ (t ++ 10 ∷ [])) of.said.spelled
      ∙ sym (text_push (forms_of r) (form_of l))
      ∙ ap text_of_forms (sym (forms_grow r l));
  forms = subst (All IsForm) (sym (forms_grow r l)) (All-push IsForm (forms_of r) (form_of l) h.forms of.said.legal);
  held = h.held;
  lsas = All-push HasWholeLsa r.lines l h.lsas of.whole;
  kept = kept_push r line l h.kept of;
}

-- ---- a line that is none of what happened, or has no line feed

-- it has no line feed
no_feed : (line : List ℕ) → All (λ b. b ≢ 10) line → All (λ b. (b == 10) ≡ false) line
no_feed [] all = All-nil (λ b. (b == 10) ≡ false)
no_feed (c ∷ line) all =
    All-cons (λ b. (b == 10) ≡ false) c line (ne_eqb c 10 (All-head (λ b. b ≢ 10) c line all)) (no_feed line (All-tail (λ b. b ≢ 10) c line all))

-- the number of the line after those that were taken
next_number : {text : List ℕ} {rest : List (List ℕ)} {r : RecordingValue} (run : Lined text rest r) (number : ℕ) → number ≡ length (forms_of r) + 1 → run.taken + 1 ≡ number
next_number {text} {rest} {r} run number is = omega (arith, is, run.has.counted, said_length r.version run.has.before (forms_of r) run.has.said)

-- the text of the recording, and a line after it
run_with_line : {bytes line : List ℕ} {r : RecordingValue} → IsText bytes r → r.lines ≢ [] → All (λ b. b ≢ 10) line → Lined (bytes ++ (line ++ 10 ∷ [])) (line ∷ [] ∷ []) r
run_with_line {bytes} {line} {r} h some plain =
    run_to (line ∷ [] ∷ []) h
    (parts_and_more h (line ++ 10 ∷ []) ∙ ap (λ (t : List (List ℕ)). map line_text (forms_of r) ++ t) (slice_split_at (λ b. b == 10) line 10 [] (no_feed line plain) refl))
    (omega arith)
    (λ none. absurd (some none))

-- the text of the recording, and a line without its line feed after it
run_with_cut : {bytes left : List ℕ} {r : RecordingValue} → IsText bytes r → r.lines ≢ [] → All (λ b. b ≢ 10) left → Lined (bytes ++ left) (left ∷ []) r
run_with_cut {bytes} {left} {r} h some plain =
    run_to (left ∷ []) h
    (parts_and_more h left ∙ ap (λ (t : List (List ℕ)). map line_text (forms_of r) ++ t) (slice_split_none (λ b. b == 10) left (no_feed left plain)))
    (omega arith)
    (λ none. absurd (some none))

-- a fault of the line that is read after the others is the first of the text
pub fault_grows : {bytes : List ℕ} {r : RecordingValue} {f : Fault} (line : List ℕ) → IsText bytes r → r.lines ≢ [] → All (λ b. b ≢ 10) line → IsFaultBehind r.version line f → (number : ℕ) → number ≡ length (forms_of r) + 1 → IsFaultOf (bytes ++ (line ++ 10 ∷ [])) (record { line = number; fault = f })
fault_grows {bytes} {r} {f} line h some plain has number is =
    let run = run_with_line h some plain in
    subst (λ (n : ℕ). IsFaultOf (bytes ++ (line ++ 10 ∷ [])) (record { line = n; fault = f })) (next_number run number is)
    (fault_behind run.has line ([] ∷ []) refl (omega arith) (λ none. absurd (some none)) f has)

-- what is left after the last line feed is a line that is cut off
pub cut_grows : {bytes : List ℕ} {r : RecordingValue} (left : List ℕ) → IsText bytes r → r.lines ≢ [] → All (λ b. b ≢ 10) left → left ≢ [] → (number : ℕ) → number ≡ length (forms_of r) + 1 → IsFaultOf (bytes ++ left) (record { line = number; fault = fault.Truncated })
cut_grows {bytes} {r} left h some plain full number is =
    let run = run_with_cut h some plain in
    subst (λ (n : ℕ). IsFaultOf (bytes ++ left) (record { line = n; fault = fault.Truncated })) (next_number run number is) (cut_behind run.has left refl full)
