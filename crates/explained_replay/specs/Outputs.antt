-- The answer after the run of a recording.
use Rattle.std.specs.Prelude.{ℕ, ◌≡◌, List, Option}
use Rattle.std.specs.Io.KnownBytes.{Appends}
use Rattle.output_lines.specs.declared.format.Format.{Format}
use Rattle.event_core.specs.Cores.{CoreValue, IsCurrent, state_of}
use Rattle.explanation.specs.declared.explained.Candidate.{Candidate}
use Rattle.explanation.specs.Explained.{IsExplained}
use Rattle.explained_replay.specs.Explanations.{IsExplanation}
use Rattle.ospf_types.specs.declared.key.Dest.{Dest}
use Rattle.due_explanation.specs.declared.due.DueExplained.{DueExplained}
use Rattle.due_explanation.specs.Explained.{IsDueExplained, IsDueMetric}
use Rattle.due_explanation.specs.Lines.{due_explanation_text}
use Rattle.recording.specs.Recordings.{RecordingValue, IsText}
use Rattle.replay.specs.Inputs.{ReadsAll}
use Rattle.replay.specs.Pages.{IsRunTo}
use Rattle.replay.specs.Runs.{IsOpened}
use Rattle.replay.specs.Writing.{AppendsPart}
use Rattle.explained_replay.specs.declared.question.Explaining.{Explaining}
use Rattle.explained_replay.specs.declared.question.Question.{Question}
use Rattle.explained_replay.specs.declared.question.Question.TheVariants.{Address, Due}

-- the explanation of the table's items for the address
pub record IsAddressAnswer (address : ℕ) (format : Format) (c : CoreValue) (text : List ℕ) : Type 0 where
  pub current : IsCurrent c
  pub candidates : List Candidate
  pub explained : IsExplained (state_of c) address candidates
  pub lines : IsExplanation format address c.table candidates text

-- the reason why the summary for the destination is due in the area, or is not
pub record IsDueAnswer (area : ℕ) (d : Dest) (format : Format) (c : CoreValue) (text : List ℕ) : Type 0 where
  pub due : DueExplained
  pub metric : IsDueMetric (state_of c) area d due.metric
  pub explained : IsDueExplained (state_of c) area d due
  pub lines : text ≡ due_explanation_text format area d due

-- the answer to the question about a core
abbrev pub IsCoreAnswer : Question → Format → CoreValue → (text : List ℕ) → Type 0
IsCoreAnswer (Address address) format c text = IsAddressAnswer address format c text
IsCoreAnswer (Due area d) format c text = IsDueAnswer area d format c text

-- the recording was run to its end, and this is the answer then
pub record IsQuestionAnswered (e : Explaining) (r : RecordingValue) (text : List ℕ) : Type 0 where
  pub opened : CoreValue
  pub opening : IsOpened r.base opened
  pub closed : CoreValue
  pub run : IsRunTo opened r.lines closed
  pub answer : IsCoreAnswer e.question e.format closed text

-- all the bytes that a reader had were a recording, and a writer's known bytes grew by the answer
pub record Explains (e : Explaining) (before after old new : Option (List ℕ)) : Type 0 where
  pub bytes : List ℕ
  pub read : ReadsAll before after bytes
  pub recording : RecordingValue
  pub text : IsText bytes recording
  pub answer : List ℕ
  pub is : IsQuestionAnswered e recording answer
  pub written : Appends old new answer

-- all bytes of the reader were a recording, and the writer's known bytes grew by a beginning of the
-- answer, and not by all of it
pub record ExplainsPart (e : Explaining) (before after old new : Option (List ℕ)) : Type 0 where
  pub bytes : List ℕ
  pub read : ReadsAll before after bytes
  pub recording : RecordingValue
  pub text : IsText bytes recording
  pub answer : List ℕ
  pub is : IsQuestionAnswered e recording answer
  pub written : AppendsPart old new answer
