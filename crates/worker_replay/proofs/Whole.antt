-- A whole replay.
use Rattle.std.proofs.Common.{ℕ, ◌≡◌, ◌+◌, Bool, true, false, not, List, [], ◌∷◌, Option, Some, None, ◌⊎◌, inl, inr, sym, subst}
use Rattle.std.specs.Prelude.{Result}
use Rattle.event_state.specs.declared.refusal.Refusal.{Refusal}
use Rattle.engine.specs.Cores.{CoreValue}
use Rattle.recording.specs.Recordings.{RecordingValue}
use Rattle.replay.specs.declared.printing.PrintOptions.{PrintOptions}
use Rattle.output_lines.specs.declared.format.Format.{Format}
use Rattle.recording.specs.declared.version.Version.{Version}
use Rattle.recording.specs.declared.line.Line.{Line}
use Rattle.recording.specs.declared.line.Line.TheVariants as line
use Rattle.route_table.specs.Tables.{TableValue}
use Rattle.replay.specs.declared.buffer.PrintError.{PrintError}
use Rattle.replay.specs.Lines.{first_number, lookup_line, answer_line}
use Rattle.replay.specs.Stops.{AreWholeLines}
use Rattle.replay.specs.Outputs.{IsShown}
use Rattle.replay.specs.Parts.{IsRecordingRead}
use Rattle.replay.proofs.Wholes.{none_whole, append_whole, lookup_whole, answer_whole, roll_whole}
use Rattle.worker_replay.specs.Runs.{Answers, Prints, has_roll, reply_of, rolled_line}
use Rattle.worker_replay.specs.Outputs.{Replays, ReplaysPart}
use Rattle.worker_replay.specs.Parts.{HasRun, Writes, WritesPart}

module _ (p : PrintOptions) (before after old new : Option (List ℕ)) (r : RecordingValue) (v : Version) (same : v ≡ r.version) (printed : List ℕ) (c : CoreValue) (read : IsRecordingRead before after r) (run : HasRun p.format r printed c) where
  pub replays : Writes v p.show p.format printed c old new → Replays p before after old new
  replays h = record {
    bytes = read.bytes;
    read = read.read;
    recording = r;
    text = read.text;
    answers = run.answers;
    output = h.text;
    is = record { printed = printed; closed = c; run = run.is; shown = subst (λ w. IsShown w p.show p.format printed c h.text) same h.shown };
    written = h.written;
  }

  pub replays_part : (why : PrintError) → WritesPart why v p.show p.format printed c old new → ReplaysPart why p before after old new
  replays_part why h = record {
    bytes = read.bytes;
    read = read.read;
    recording = r;
    text = read.text;
    part = h.part.part;
    is = record { answers = run.answers; whole = h.whole; output = record { printed = printed; closed = c; run = run.is; shown = subst (λ w. IsShown w p.show p.format printed c h.whole) same h.shown }; part = h.part.beginning };
    written = h.part.appended;
  }

rolled_whole : (format : Format) (last : Bool) (number : ℕ) (roll : Option (Result ℕ Refusal)) → AreWholeLines (rolled_line format last number roll)
rolled_whole format false number roll = none_whole
rolled_whole format true number None = none_whole
rolled_whole format true number (Some answer) = roll_whole format number answer

-- the output of a run's lines is whole lines
prints_whole : (format : Format) (table : TableValue) (serial number : ℕ) (lines : List Line) (answers : Answers) (roll : Option (Result ℕ Refusal)) (text : List ℕ) → Prints format table serial number lines answers roll text → AreWholeLines text
prints_whole format table serial number [] [] roll text none = inl none
prints_whole format table serial number [] (answer ∷ answers) roll text h = absurd h
prints_whole format table serial number (line.Lookup address ∷ lines) answers roll text (found, rest, matched, is, more) =
    subst AreWholeLines (sym is) (append_whole (lookup_line format number address serial found) rest (lookup_whole format number address serial found) (prints_whole format table serial (number + 1) lines answers roll rest more))
prints_whole format table serial number (line.Roll ∷ lines) answers roll text (rest, is, more) =
    let last = not (has_roll lines) in
    subst AreWholeLines (sym is) (append_whole (rolled_line format last number roll) rest (rolled_whole format last number roll) (prints_whole format table serial (number + 1) lines answers roll rest more))
prints_whole format table serial number (line.Event e ∷ lines) [] roll text h = absurd h
prints_whole format table serial number (line.Event e ∷ lines) (answer ∷ answers) roll text (rest, is, more) =
    subst AreWholeLines (sym is) (append_whole (answer_line format number (reply_of answer)) rest (answer_whole format number (reply_of answer)) (prints_whole format table serial (number + 1) lines answers roll rest more))

pub run_whole : (format : Format) (r : RecordingValue) (printed : List ℕ) (c : CoreValue) → HasRun format r printed c → AreWholeLines printed
run_whole format r printed c h =
    let lines = h.is.lines in prints_whole format lines.table lines.table.serial (first_number r.version r.base) r.lines h.answers lines.roll printed lines.prints

pub or_else : {P A B : Type 0} → (A → B) → P ⊎ A → P ⊎ B
or_else f (inl p) = inl p
or_else f (inr a) = inr (f a)
