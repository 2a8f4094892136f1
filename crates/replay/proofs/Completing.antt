-- The written part of a replay that ends early is the beginning of an output. The run can be
-- completed: each event and each roll that is left is refused for the reason that it has, or
-- because memory ran out.
use Rattle.std.proofs.Common.{◌≡◌, ◌∙◌, ℕ, ◌+◌, ◌++◌, List, [], ◌∷◌, length, take, drop, Option, Some, None, refl, sym, ap, subst, inl, inr, append_assoc, take-append-drop}
use Rattle.std.specs.Prelude.{Err}
use Rattle.std.proofs.lemmas.Bool.Decides.{eqb_tells}
use Rattle.std.specs.List.{flat_map}
use Rattle.std.specs.FinMap.{entries}
use Rattle.output_lines.specs.declared.format.Format.{Format}
use Rattle.ospf_types.specs.declared.key.Scope.{Scope}
use Rattle.ospf_types.specs.Lsa.{Lsa}
use Rattle.event_state.specs.declared.event.Event.{Event}
use Rattle.event_state.specs.declared.refusal.Refusal.{Refusal}
use Rattle.event_state.specs.declared.refusal.Refusal.TheVariants as refusal
use Rattle.event_state.specs.Steps.{refusal_of}
use Rattle.event_core.specs.Cores.{CoreValue, IsRefused, IsRollRefusal, state_of}
use Rattle.event_core.specs.Listings.{AreLsas, lsas_in}
use Rattle.recording.specs.declared.line.Line.{Line}
use Rattle.recording.specs.declared.line.Line.TheVariants as line
use Rattle.recording.specs.Recordings.{RecordingValue}
use Rattle.output_lines.specs.declared.format.Show.{Show}
use Rattle.recording.specs.declared.version.Version.{Version}
use Rattle.output_lines.specs.declared.format.Show.TheVariants as show
use Rattle.replay.specs.Lines.{first_number, lookup_line, answer_line, roll_line, serial_line, item_line, area_lines, lsa_line, recorded_text}
use Rattle.replay.specs.Runs.{OfEvent, OfRoll, Answers, Prints}
use Rattle.replay.specs.declared.buffer.PrintError.{PrintError}
use Rattle.replay.specs.declared.printing.PrintOptions.{PrintOptions}
use Rattle.replay.specs.Stops.{IsLeft}
use Rattle.replay.specs.Outputs.{IsRun, IsShown, IsOutput, IsCutOutput, journal_of}
use Rattle.replay.specs.Parts.{PrintsRun, IsCut}
use Rattle.replay.proofs.AreaIds.{some_ids}
use Rattle.replay.proofs.Matching.{some_match}
use Rattle.replay.proofs.RunSteps.{prints_more}
use Rattle.replay.proofs.Wholes.{left_longer}

-- ---- the lines that are left

refused : (c : CoreValue) (e : Event) → (f : Refusal) × IsRefused c e f c
refused c e = by (refusal_of (state_of c) e) refl
  where
    by : (o : Option Refusal) → refusal_of (state_of c) e ≡ o → (f : Refusal) × IsRefused c e f c
    by (Some f) is = (f, record { first = inl is; unchanged = refl })
    by None is = (refusal.Memory, record { first = inr (refl, is); unchanged = refl })

-- a roll is refused if the core is behind, and otherwise because memory ran out
roll_refused : (c : CoreValue) → (f : Refusal) × IsRollRefusal c f
roll_refused c = elim (eqb_tells c.built (length c.journal)) [
  | inl current ↦ (refusal.Memory, inr (refl, current.1))
  | inr behind ↦ (refusal.NotCurrent, inl (refl, behind.1))
]

-- lines were run, and the core is as before
record Rested (format : Format) (c : CoreValue) (number : ℕ) (lines : List Line) : Type 0 where
  answers : Answers
  text : List ℕ
  run : Prints format c number lines answers text c

rested : (format : Format) (c : CoreValue) (number : ℕ) (lines : List Line) → Rested format c number lines
rested format c number [] = record { answers = []; text = []; run = (refl, refl) }
rested format c number (line.Lookup address ∷ lines) =
    let m = some_match c.table.items address in
    let rest = rested format c (number + 1) lines in
    record { answers = rest.answers; text = lookup_line format number address c.table.serial m.0 ++ rest.text; run = (m.0, rest.text, m.1, refl, rest.run) }
rested format c number (line.Event e ∷ lines) =
    let f = refused c e in
    let rest = rested format c (number + 1) lines in
    record { answers = OfEvent (Err f.0) ∷ rest.answers; text = answer_line format number (Err f.0) ++ rest.text; run = (c, rest.text, f.1, refl, rest.run) }
rested format c number (line.Roll ∷ lines) =
    let f = roll_refused c in
    let rest = rested format c (number + 1) lines in
    record { answers = OfRoll (Err f.0) ∷ rest.answers; text = roll_line format number (Err f.0) ++ rest.text; run = (c, rest.text, (f.1, refl), refl, rest.run) }

-- ---- what is shown then

-- the LSAs can be listed
some_lsas : (c : CoreValue) → (lsas : List (Scope × Lsa)) × AreLsas (state_of c) lsas
some_lsas c = let ids = some_ids (state_of c).config.areas in (lsas_in (state_of c) ids.0, (ids.0, ids.1, refl))

-- the shown state; it begins with the lines of the run, if these are printed
record Shown (v : Version) (s : Show) (format : Format) (printed : List ℕ) (c : CoreValue) : Type 0 where
  whole : List ℕ
  shown : IsShown v s format printed c whole
  behind : PrintsRun s → (tail : List ℕ) × (whole ≡ printed ++ tail)

some_shown : (v : Version) (s : Show) (format : Format) (printed : List ℕ) (c : CoreValue) → Shown v s format printed c
some_shown v show.Routes format printed c =
    let serial = serial_line format c in
    let items : List ℕ = flat_map (item_line format) (entries c.table.items) in
    record { whole = printed ++ serial ++ items; shown = refl; behind = λ _. (serial ++ items, append_assoc printed serial items) }
some_shown v show.Due format printed c =
    let serial = serial_line format c in
    let summaries : List ℕ = flat_map (area_lines format) c.summaries in
    record { whole = printed ++ serial ++ summaries; shown = refl; behind = λ _. (serial ++ summaries, append_assoc printed serial summaries) }
some_shown v show.Lsdb format printed c =
    let serial = serial_line format c in
    let lsas = some_lsas c in
    let listed : List ℕ = flat_map (lsa_line format) lsas.0 in
    record { whole = printed ++ serial ++ listed; shown = (lsas.0, lsas.1, refl); behind = λ _. (serial ++ listed, append_assoc printed serial listed) }
some_shown v show.Journal format printed c = record { whole = recorded_text format (journal_of v c); shown = refl; behind = λ none. absurd none }

-- ---- the whole output

-- the run of the first lines continues to the end, and there is an output, which begins with their
-- lines
record Completed (r : RecordingValue) (p : PrintOptions) (printed : List ℕ) : Type 0 where
  answers : Answers
  whole : List ℕ
  output : IsOutput r p answers whole
  behind : PrintsRun p.show → (tail : List ℕ) × (whole ≡ printed ++ tail)

goes_on : (r : RecordingValue) (p : PrintOptions) (count : ℕ) (answers : Answers) (printed : List ℕ) (now : CoreValue) → IsRun p.format (record r { lines = take count r.lines }) answers printed now → Completed r p printed
goes_on r p count answers printed now h =
    let first = first_number r.version r.base in
    let rest = rested p.format now (first + length (take count r.lines)) (drop count r.lines) in
    let both = prints_more p.format h.opened now now first (take count r.lines) (drop count r.lines) answers rest.answers printed rest.text h.run rest.run in
    let run : Prints p.format h.opened first r.lines (answers ++ rest.answers) (printed ++ rest.text) now =
    subst (λ (ls : List Line). Prints p.format h.opened first ls (answers ++ rest.answers) (printed ++ rest.text) now) (take-append-drop count r.lines) both in
    let text = some_shown r.version p.show p.format (printed ++ rest.text) now in
    record {
      answers = answers ++ rest.answers;
      whole = text.whole;
      output = record { printed = printed ++ rest.text; closed = now; run = record { opened = h.opened; opening = h.opening; run = run }; shown = text.shown };
      behind = λ prints. let b = text.behind prints in (rest.text ++ b.0, b.1 ∙ append_assoc printed rest.text b.0);
    }

pub completed : (why : PrintError) (r : RecordingValue) (p : PrintOptions) (text : List ℕ) → IsCut why r p text → IsCutOutput why r p text
completed why r p text (inl begun) =
    let all = goes_on r p 0 [] [] begun.opened (record { opened = begun.opened; opening = begun.opening; run = (refl, refl) }) in
    record {
      answers = all.answers;
      whole = all.whole;
      output = all.output;
      part = record {
        rest = all.whole;
        joined = ap (λ l. l ++ all.whole) (sym begun.none);
        left = subst (λ w. IsLeft w text all.whole) (sym begun.cause) (inl begun.none);
      };
    }
completed why r p text (inr (inl cut)) =
    let all = goes_on r p cut.count cut.answers cut.printed cut.now cut.run in
    let b = all.behind cut.prints in
    record {
      answers = all.answers;
      whole = all.whole;
      output = all.output;
      part = record {
        rest = cut.part.rest ++ b.0;
        joined = b.1 ∙ ap (λ l. l ++ b.0) cut.part.joined ∙ append_assoc text cut.part.rest b.0;
        left = left_longer why text cut.part.rest b.0 cut.part.left;
      };
    }
completed why r p text (inr (inr out)) = out
