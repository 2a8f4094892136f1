-- The parts of a replay over several workers: a recording is run over an engine, and the output is
-- written.
use Rattle.std.specs.Prelude.{ℕ, ◌≡◌, ◌≤◌, ◌+◌, ◌++◌, Bool, true, false, not, List, [], ◌∷◌, Option, IfSome, Result}
use mathlib.Core.List.{IsPrefix}
use Rattle.std.specs.Io.KnownBytes.{Appends}
use Rattle.event_state.specs.declared.event.Event.{Event}
use Rattle.event_state.specs.declared.refusal.Refusal.{Refusal}
use Rattle.route_table.specs.declared.table.Match.{Match}
use Rattle.route_table.specs.Tables.{TableValue, IsMatch}
use Rattle.engine.specs.Reply.{Reply}
use Rattle.engine.specs.Cores.{CoreValue}
use Rattle.publication.specs.Forwarders.{ForwarderValue}
use Rattle.publication.specs.Names.{Name}
use Rattle.publication.specs.Published.{IsTableFor}
use Rattle.engine.specs.declared.answer.Answer.{Answer}
use Rattle.engine.specs.declared.answer.Refused.{Refused}
use Rattle.recording.specs.Recordings.{RecordingValue}
use Rattle.recording.specs.declared.line.Line.{Line}
use Rattle.recording.specs.declared.line.Line.TheVariants as line
use Rattle.replay.specs.declared.fault.ReplayFault.TheVariants as replay_fault
use Rattle.output_lines.specs.declared.format.Show.{Show}
use Rattle.output_lines.specs.declared.format.Format.{Format}
use Rattle.recording.specs.declared.version.Version.{Version}
use Rattle.replay.specs.Lines.{lookup_line, answer_line}
use Rattle.replay.specs.Outputs.{IsShown}
use Rattle.replay.specs.Pages.{AddsPart}
use Rattle.replay.specs.declared.buffer.PrintError.{PrintError}
use Rattle.worker_replay.specs.declared.fault.WorkerReplayFault.{WorkerReplayFault}
use Rattle.worker_replay.specs.declared.fault.WorkerReplayFault.TheVariants as fault
use Rattle.worker_replay.specs.declared.asking.Ask.{Ask}
use Rattle.worker_replay.specs.declared.asking.Ask.TheVariants as ask
use Rattle.worker_replay.specs.Runs.{Answers, IsPrinted, IsWorkerRun, has_roll, rolled_line, told_of}

-- as many workers as there may be
abbrev pub AreWorkers : ℕ → Type 0
AreWorkers n = (1 ≤ n) × (n ≤ 16)

-- the reason why a recording is not run
abbrev pub IsRunFault : WorkerReplayFault → Type 0
IsRunFault (fault.Replay f) = f ≡ replay_fault.Memory
IsRunFault fault.Spawn = Unit {0}
IsRunFault fault.Place = Unit {0}
IsRunFault fault.NoEntry = Unit {0}

-- the token of an answer is one of the engine of this name
abbrev pub IsTokenOf : Name → Result Answer Refused → Type 0
IsTokenOf name answer = IfSome (told_of answer) (λ t. t.name ≡ name)

-- ---- what lines ask

abbrev pub is_roll : Line → Bool
is_roll (line.Event e) = false
is_roll (line.Lookup address) = false
is_roll line.Roll = true

-- the output that a line asks for; it depends on a roll in a later line
abbrev pub ask_of : Line → (rolls_later : Bool) → Ask
ask_of (line.Event e) rolls_later = ask.Event
ask_of (line.Lookup address) rolls_later = ask.Lookup address
ask_of line.Roll rolls_later = ask.Roll (not rolls_later)

abbrev pub asks_of : List Line → List Ask
asks_of [] = []
asks_of (l ∷ lines) = ask_of l (has_roll lines) ∷ asks_of lines

-- each event takes the next reply: there are as many replies as are taken, or more
abbrev pub HasAllReplies : List Ask → List (Result Reply Refusal) → Type 0
HasAllReplies [] replies = Unit {0}
HasAllReplies (ask.Lookup address ∷ asks) replies = HasAllReplies asks replies
HasAllReplies (ask.Roll last ∷ asks) replies = HasAllReplies asks replies
HasAllReplies (ask.Event ∷ asks) [] = ⊥
HasAllReplies (ask.Event ∷ asks) (reply ∷ replies) = HasAllReplies asks replies

-- numbered from here on they print this
abbrev pub PrintsAll : Format → TableValue → (serial number : ℕ) → List Ask → List (Result Reply Refusal) → Option (Result ℕ Refusal) → List ℕ → Type 0
PrintsAll format table serial number [] replies roll text = text ≡ []
PrintsAll format table serial number (ask.Lookup address ∷ asks) replies roll text =
    (found : Match) × (rest : List ℕ) × IsMatch table.items address found × (text ≡ lookup_line format number address serial found ++ rest) × PrintsAll format table serial (number + 1) asks replies roll rest
PrintsAll format table serial number (ask.Roll last ∷ asks) replies roll text =
    (rest : List ℕ) × (text ≡ rolled_line format last number roll ++ rest) × PrintsAll format table serial (number + 1) asks replies roll rest
PrintsAll format table serial number (ask.Event ∷ asks) [] roll text = ⊥
PrintsAll format table serial number (ask.Event ∷ asks) (reply ∷ replies) roll text =
    (rest : List ℕ) × (text ≡ answer_line format number reply ++ rest) × PrintsAll format table serial (number + 1) asks replies roll rest

-- their output was appended to the text
pub record AppendsAll (format : Format) (table : TableValue) (serial number : ℕ) (asks : List Ask) (replies : List (Result Reply Refusal)) (roll : Option (Result ℕ Refusal)) (old new : List ℕ) : Type 0 where
  pub text : List ℕ
  pub prints : PrintsAll format table serial number asks replies roll text
  pub appended : new ≡ old ++ text

-- the output of the line was appended to the text, and these replies are left
abbrev pub AppendsLine : Format → TableValue → (serial number : ℕ) → Ask → (replies left : List (Result Reply Refusal)) → Option (Result ℕ Refusal) → (old new : List ℕ) → Type 0
AppendsLine format table serial number (ask.Lookup address) replies left roll old new =
    (found : Match) × IsMatch table.items address found × (new ≡ old ++ lookup_line format number address serial found) × (left ≡ replies)
AppendsLine format table serial number (ask.Roll last) replies left roll old new = (new ≡ old ++ rolled_line format last number roll) × (left ≡ replies)
AppendsLine format table serial number ask.Event replies left roll old new =
    (reply : Result Reply Refusal) × (replies ≡ reply ∷ left) × (new ≡ old ++ answer_line format number reply)

-- the forwarder looked once, and they printed this
pub record LooksOnce (format : Format) (f : ForwarderValue) (number : ℕ) (asks : List Ask) (replies : List (Result Reply Refusal)) (roll : Option (Result ℕ Refusal)) (text : List ℕ) : Type 0 where
  pub seen : List Event
  pub table : TableValue
  pub after : IsPrefix f.known seen
  pub right : IsTableFor f.name.base seen table
  pub prints : PrintsAll format table table.serial number asks replies roll text

-- ---- the parts

-- the lines were run, and printed this
pub record HasPrinted (format : Format) (name : Name) (lines : List Line) (number : ℕ) (printed : List ℕ) : Type 0 where
  pub answers : Answers
  pub is : IsPrinted format name lines number answers printed

-- the recording was run
pub record HasRun (format : Format) (r : RecordingValue) (printed : List ℕ) (closed : CoreValue) : Type 0 where
  pub answers : Answers
  pub is : IsWorkerRun format r answers printed closed

-- a writer's known bytes grew by what is shown, a journal in this version
pub record Writes (v : Version) (s : Show) (format : Format) (printed : List ℕ) (c : CoreValue) (old new : Option (List ℕ)) : Type 0 where
  pub text : List ℕ
  pub shown : IsShown v s format printed c text
  pub written : Appends old new text

-- a writer's known bytes grew by the beginning of what is shown that such a stop leaves
pub record WritesPart (why : PrintError) (v : Version) (s : Show) (format : Format) (printed : List ℕ) (c : CoreValue) (old new : Option (List ℕ)) : Type 0 where
  pub whole : List ℕ
  pub shown : IsShown v s format printed c whole
  pub part : AddsPart why old new whole
