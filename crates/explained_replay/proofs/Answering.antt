-- A recording that was run to its end, and the answer then.
use Rattle.std.proofs.Common.{◌≡◌, ℕ, List, Option, OnErr, Result, Ok, Err, subst}
use Rattle.std.specs.Io.KnownBytes.{Appends}
use Rattle.event_core.specs.Cores.{CoreValue}
use Rattle.recording.specs.declared.line.Line.{Line}
use Rattle.recording.specs.Recordings.{RecordingValue}
use Rattle.replay.specs.Pages.{IsRunTo}
use Rattle.replay.specs.Parts.{IsRecordingRead}
use Rattle.replay.specs.Runs.{IsOpened}
use Rattle.replay.specs.Writing.{AppendsPart}
use Rattle.replay.specs.declared.fault.ReplayFault.{ReplayFault}
use Rattle.explained_replay.specs.declared.question.Explaining.{Explaining}
use Rattle.explained_replay.specs.Outputs.{Explains, ExplainsPart, IsCoreAnswer, IsQuestionAnswered}

-- the fault of a writer that took a part only
pub part_of : (r : Result (Unit {0}) ReplayFault) (e : ReplayFault) (P : Type 0) → OnErr r P → r ≡ Err e → P
part_of (Ok u) e P part is = cc
part_of (Err x) e P part is = part

module _ (e : Explaining) (r : RecordingValue) (lines : List Line) (opened closed : CoreValue) (text shown : List ℕ) (is_text : shown ≡ text) (same_base : opened.base ≡ r.base) (same_lines : lines ≡ r.lines)
    (opening : IsOpened opened.base opened) (run : IsRunTo opened lines closed) (answer : IsCoreAnswer e.question e.format closed text) (before after old new : Option (List ℕ)) (read : IsRecordingRead before after r) where
  answered : IsQuestionAnswered e r text
  answered = record {
    opened = opened;
    opening = subst (λ b. IsOpened b opened) same_base opening;
    closed = closed;
    run = subst (λ (l : List Line). IsRunTo opened l closed) same_lines run;
    answer = answer;
  }

  pub explains : Appends old new shown → Explains e before after old new
  explains written = record { bytes = read.bytes; read = read.read; recording = r; text = read.text; answer = text; is = answered; written = subst (λ (t : List ℕ). Appends old new t) is_text written }

  pub explains_part : AppendsPart old new shown → ExplainsPart e before after old new
  explains_part written = record { bytes = read.bytes; read = read.read; recording = r; text = read.text; answer = text; is = answered; written = subst (λ (t : List ℕ). AppendsPart old new t) is_text written }
