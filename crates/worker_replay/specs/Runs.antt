-- The run of a recording over several workers.
use Rattle.std.specs.Prelude.{ℕ, ◌≡◌, ◌+◌, ◌++◌, ◌⊎◌, Bool, true, false, not, List, [], ◌∷◌, All, Option, Some, None, IfSome, Result, Ok, Err, MatchResult}
use mathlib.Core.List.{IsPrefix}
use Rattle.event_state.specs.declared.base.Base.{Base}
use Rattle.event_state.specs.declared.event.Event.{Event}
use Rattle.event_state.specs.declared.refusal.Refusal.{Refusal}
use Rattle.event_state.specs.declared.refusal.Refusal.TheVariants as refusal
use Rattle.event_state.specs.Rolls.{IsRolled}
use Rattle.event_state.specs.Steps.{standard_limits}
use Rattle.route_table.specs.declared.table.Match.{Match}
use Rattle.route_table.specs.Tables.{TableValue, IsMatch}
use Rattle.output_lines.specs.declared.format.Format.{Format}
use Rattle.engine.specs.Reply.{Reply}
use Rattle.engine.specs.Cores.{CoreValue, IsCore}
use Rattle.engine.specs.Opens.{IsRolledSerial}
use Rattle.publication.specs.Names.{Name}
use Rattle.publication.specs.Published.{IsTableFor}
use Rattle.publication.specs.Told.{TokenValue}
use Rattle.engine.specs.Answers.{AreAnswered}
use Rattle.engine.specs.declared.answer.Answer.{Answer}
use Rattle.engine.specs.declared.answer.Refused.{Refused}
use Rattle.recording.specs.declared.line.Line.{Line}
use Rattle.recording.specs.declared.line.Line.TheVariants as line
use Rattle.recording.specs.Recordings.{RecordingValue}
use Rattle.replay.specs.Lines.{first_number, lookup_line, answer_line, roll_line}

-- ---- lines

-- the events of the lines, in their order
abbrev pub events_of : List Line → List Event
events_of [] = []
events_of (line.Event e ∷ lines) = e ∷ events_of lines
events_of (line.Lookup address ∷ lines) = events_of lines
events_of (line.Roll ∷ lines) = events_of lines

-- one of the lines is a roll
abbrev pub has_roll : List Line → Bool
has_roll [] = false
has_roll (line.Event e ∷ lines) = has_roll lines
has_roll (line.Lookup address ∷ lines) = has_roll lines
has_roll (line.Roll ∷ lines) = true

-- ---- answers

-- the answers of an engine to events, one after the other
abbrev pub Answers : Type 0
Answers = List (Result Answer Refused)

-- the printed part of an answer
abbrev pub reply_of : Result Answer Refused → Result Reply Refusal
reply_of (Ok answer) = Ok answer.reply
reply_of (Err refused) = Err refused.refusal

-- the token of an answer
abbrev pub told_of : Result Answer Refused → Option TokenValue
told_of (Ok answer) = answer.told
told_of (Err refused) = refused.told

-- the list begins with that of the answer's token
abbrev pub IsAfter : List Event → Result Answer Refused → Type 0
IsAfter seen answer = IfSome (told_of answer) (λ t. IsPrefix t.list seen)

-- ---- the roll

-- the reason why an engine is not rolled
abbrev pub IsNotRolled : Refusal → Type 0
IsNotRolled r = (r ≡ refusal.NotCurrent) ⊎ (r ≡ refusal.Memory)

-- The answer of an engine to the one roll that its `roll` lines together are: its serial, or the
-- reason why it is refused. It is `None` without a `roll` line.
abbrev pub IsRollAnswer : Name → List Line → Option (Result ℕ Refusal) → Type 0
IsRollAnswer name lines None = has_roll lines ≡ false
IsRollAnswer name lines (Some answer) = (has_roll lines ≡ true) × MatchResult answer (IsRolledSerial name.base) IsNotRolled

-- the output of a `roll` line: the last one prints why the roll was refused, if it was, and the
-- others nothing
abbrev pub rolled_line : Format → (last : Bool) (number : ℕ) → Option (Result ℕ Refusal) → List ℕ
rolled_line format false number answer = []
rolled_line format true number None = []
rolled_line format true number (Some answer) = roll_line format number answer

-- ---- what is printed

-- The output of lines with these numbers. An event prints its answer, in the order of the lines. A
-- lookup prints its match in the one table, with the one serial. The last `roll` line prints why
-- the roll was refused, if it was.
abbrev pub Prints : Format → TableValue → (serial number : ℕ) → List Line → Answers → Option (Result ℕ Refusal) → List ℕ → Type 0
Prints format table serial number [] [] roll text = text ≡ []
Prints format table serial number [] (answer ∷ answers) roll text = ⊥
Prints format table serial number (line.Lookup address ∷ lines) answers roll text =
    (found : Match) × (rest : List ℕ) × IsMatch table.items address found × (text ≡ lookup_line format number address serial found ++ rest) × Prints format table serial (number + 1) lines answers roll rest
Prints format table serial number (line.Roll ∷ lines) answers roll text =
    (rest : List ℕ) × (text ≡ rolled_line format (not (has_roll lines)) number roll ++ rest) × Prints format table serial (number + 1) lines answers roll rest
Prints format table serial number (line.Event e ∷ lines) [] roll text = ⊥
Prints format table serial number (line.Event e ∷ lines) (answer ∷ answers) roll text =
    (rest : List ℕ) × (text ≡ answer_line format number (reply_of answer) ++ rest) × Prints format table serial (number + 1) lines answers roll rest

-- The events of a recording have these answers of the engine of a name, which is rolled after them
-- if a line asks for it, and its lines print this. The table of all lookups is right for a list of
-- events that begins with the list of each token among the answers. So it has each event that was
-- answered Current.
pub record IsPrinted (format : Format) (name : Name) (lines : List Line) (number : ℕ) (answers : Answers) (printed : List ℕ) : Type 0 where
  pub answered : AreAnswered name (events_of lines) answers
  pub seen : List Event
  pub table : TableValue
  pub right : IsTableFor name.base seen table
  pub after : All (IsAfter seen) answers
  pub roll : Option (Result ℕ Refusal)
  pub rolled : IsRollAnswer name lines roll
  pub prints : Prints format table table.serial number lines answers roll printed

-- The core that an engine leaves that began with a base: its own base is the state after some
-- events, and the journal has those since.
pub record IsClosed (base : Base) (c : CoreValue) : Type 0 where
  pub events : List Event
  pub rolled : IsRolled base standard_limits events c.base
  pub limits : c.limits ≡ standard_limits
  pub core : IsCore c

-- the recording was run with these answers to its events, its lines printed this, and a core was
-- left
pub record IsWorkerRun (format : Format) (r : RecordingValue) (answers : Answers) (printed : List ℕ) (closed : CoreValue) : Type 0 where
  pub name : Name
  pub named : name.base ≡ r.base
  pub lines : IsPrinted format name r.lines (first_number r.version r.base) answers printed
  pub left : IsClosed r.base closed
