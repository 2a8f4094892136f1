-- The buffer: the end of what is printed, which is not yet written.
use Rattle.std.specs.Prelude.{ℕ, ◌≡◌, ◌≢◌, ◌++◌, List, [], ◌∷◌, All, Option, Result, Ok, Err, take}
use Rattle.std.specs.Io.KnownBytes.{Appends}
use Rattle.output_lines.specs.declared.format.Format.{Format}
use Rattle.event_state.specs.declared.event.Event.{Event}
use Rattle.event_state.specs.declared.refusal.Refusal.{Refusal}
use Rattle.event_state.specs.declared.refusal.Refusal.TheVariants as refusal
use Rattle.event_core.specs.declared.reply.Reply.{Reply}
use Rattle.event_core.specs.Cores.{CoreValue, Applies}
use Rattle.recording.specs.declared.line.Line.{Line}
use Rattle.replay.specs.Runs.{Answer, Answers, OfEvent, OfRoll, Prints, RollsBy}
use Rattle.replay.specs.Stops.{AreWholeLines, IsBeginning}
use Rattle.replay.specs.declared.buffer.PrintError.{PrintError}

-- The text, which is whole lines, was printed. The growth of the writer's known bytes, followed by
-- the buffer now, is the buffer before, followed by the text. If the buffer before was whole lines,
-- so is the written part.
pub record AddsLines (old new : Option (List ℕ)) (before buffer text : List ℕ) : Type 0 where
  pub written : List ℕ
  pub appended : Appends old new written
  pub joined : before ++ text ≡ written ++ buffer
  pub lines : AreWholeLines text
  pub pages : AreWholeLines before → AreWholeLines written

-- a writer's known bytes grew by the beginning of this that such a stop leaves
pub record AddsPart (why : PrintError) (old new : Option (List ℕ)) (whole : List ℕ) : Type 0 where
  pub part : List ℕ
  pub beginning : IsBeginning why part whole
  pub appended : Appends old new part

-- ---- runs

-- the line of this number was run, and its output was appended to the text
pub record RanLine (format : Format) (old : CoreValue) (number : ℕ) (line : Line) (new : CoreValue) (before after : List ℕ) : Type 0 where
  pub answers : Answers
  pub text : List ℕ
  pub run : Prints format old number (line ∷ []) answers text new
  pub printed : after ≡ before ++ text
  pub lines : AreWholeLines text

-- the lines were run, from this number on, and printed
pub record Ran (format : Format) (old : CoreValue) (number : ℕ) (lines : List Line) (new : CoreValue) (from to : Option (List ℕ)) (before buffer : List ℕ) : Type 0 where
  pub answers : Answers
  pub text : List ℕ
  pub run : Prints format old number lines answers text new
  pub printed : AddsLines from to before buffer text

-- this number of lines was run, and a beginning of their output was written
pub record RanPart (why : PrintError) (format : Format) (old : CoreValue) (number : ℕ) (lines : List Line) (from to : Option (List ℕ)) (before : List ℕ) : Type 0 where
  pub count : ℕ
  pub answers : Answers
  pub text : List ℕ
  pub now : CoreValue
  pub run : Prints format old number (take count lines) answers text now
  pub part : AddsPart why from to (before ++ text)

-- memory did not run out over this line: an event was taken, or refused for another reason, and a
-- roll was done (a refusal has no other reason)
abbrev pub HadMemory : Answer → Type 0
HadMemory (OfEvent (Ok reply)) = Unit {0}
HadMemory (OfEvent (Err why)) = why ≢ refusal.Memory
HadMemory (OfRoll (Ok serial)) = Unit {0}
HadMemory (OfRoll (Err why)) = ⊥

-- the event was applied, and was not refused because memory ran out
abbrev pub TakesEvent : CoreValue → Event → CoreValue → Type 0
TakesEvent old e new = (answer : Result Reply Refusal) × Applies old e answer new × HadMemory (OfEvent answer)

-- the core was rolled
abbrev pub TakesRoll : CoreValue → CoreValue → Type 0
TakesRoll old new = (serial : ℕ) × RollsBy old (Ok serial) new

-- the lines lead from one core to the other, whatever their numbers and their printed form, and
-- memory ran out over none of them
abbrev pub IsRunTo : CoreValue → List Line → CoreValue → Type 0
IsRunTo old lines new = (format : Format) (number : ℕ) → (answers : Answers) × (text : List ℕ) × Prints format old number lines answers text new × All HadMemory answers
