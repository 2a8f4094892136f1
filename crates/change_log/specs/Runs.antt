-- A run of a recording's lines, and its report.
use Rattle.std.specs.Prelude.{ℕ, ◌≡◌, ◌≢◌, ◌≤◌, ◌<◌, ◌+◌, ◌⊎◌, ◌++◌, Bool, true, false, List, [], ◌∷◌, length, Option, Result, Ok, Err}
use Rattle.change_log.specs.declared.printing.ChangeFilter.{ChangeFilter}
use Rattle.event_state.specs.declared.refusal.Refusal.{Refusal}
use Rattle.event_state.specs.declared.refusal.Refusal.TheVariants as refusal
use Rattle.event_state.specs.Steps.{standard_limits}
use Rattle.event_core.specs.declared.reply.Reply.{Reply}
use Rattle.event_core.specs.Cores.{CoreValue, Applies, IsCore, IsCurrent}
use Rattle.recording.specs.declared.fault.Fault.{Fault}
use Rattle.recording.specs.declared.line.Line.{Line}
use Rattle.recording.specs.declared.line.Line.TheVariants as line
use Rattle.route_table.specs.declared.table.Match.{Match}
use Rattle.route_table.specs.Tables.{IsMatch}
use Rattle.replay.specs.Pages.{AddsLines, AddsPart, TakesRoll}
use Rattle.replay.specs.Runs.{RollsBy}
use Rattle.replay.specs.declared.buffer.PrintError.{PrintError}
use Rattle.replay.specs.declared.buffer.PrintError.TheVariants as stop
use Rattle.change_log.specs.Lines.{AtFault, Change, Found, Refused, lines_of}
use Rattle.change_log.specs.Changes.{AreDifferences, Give}

-- ---- the report of one line; a line that changed nothing is reported if answers are wanted

abbrev pub answered : Bool → Change → List Change
answered true change = change ∷ []
answered false change = []

-- a refused event may be skipped: its refusal is reported, or memory did not run out
abbrev pub MayPass : Bool → Refusal → Type 0
MayPass true why = Unit {0}
MayPass false why = why ≢ refusal.Memory

-- The changes of an event that was taken are reported, and the table and the due summaries reflect
-- it. The refusal of a refused one is reported.
abbrev pub IsToldOf : Bool → CoreValue → Result Reply Refusal → CoreValue → List Change → Type 0
IsToldOf answers old (Ok reply) new told = IsCurrent new × AreDifferences old new told
IsToldOf answers old (Err why) new told = MayPass answers why × (told ≡ answered answers (Refused why))

-- the match of the address in the table
abbrev pub IsFoundIn : Bool → CoreValue → ℕ → List Change → Type 0
IsFoundIn true c address told = (found : Match) × IsMatch c.table.items address found × (told ≡ Found address c.table.serial found ∷ [])
IsFoundIn false c address told = told ≡ []

-- a roll that was refused
abbrev pub told_of_roll : Bool → Result ℕ Refusal → List Change
told_of_roll answers (Ok serial) = []
told_of_roll answers (Err refusal) = answered answers (Refused refusal)

-- The line leads from one core to the other, with this report. A lookup and a roll change nothing
-- that is reported.
abbrev pub TellsLine : Bool → CoreValue → Line → CoreValue → List Change → Type 0
TellsLine answers old (line.Event e) new told = (answer : Result Reply Refusal) × Applies old e answer new × IsToldOf answers old answer new told
TellsLine answers old (line.Lookup address) new told = IsFoundIn answers old address told × (new ≡ old)
TellsLine answers old line.Roll new told = (answer : Result ℕ Refusal) × RollsBy old answer new × (told ≡ told_of_roll answers answer)

-- ---- lines, one after the other

-- a line as it was taken: a line of a recording, a line that comes after it, or the fault of the
-- latter
pub data Taken : Type 0 where
  Says : (line : Line) → Taken
  Comes : (line : Line) → Taken
  Fails : (fault : Fault) → Taken

-- the number of events of a long journal
abbrev pub long_journal : ℕ
long_journal = 65536

-- Before a line, a long journal is rolled, and no other. If memory runs out for the roll, a long
-- journal stays so, but a full one does not: there is room for an event. Nothing that is reported
-- changes.
abbrev pub KeepsShort : CoreValue → CoreValue → Type 0
KeepsShort old new =
    ((length old.journal < long_journal) × (new ≡ old))
    ⊎ (((long_journal ≤ length old.journal) × TakesRoll old new)
    ⊎ ((long_journal ≤ length old.journal) × (length old.journal < standard_limits.events) × (new ≡ old)))

-- A line of a recording is run by the core. A line with a fault is reported, and changes nothing.
abbrev pub TellsTaken : Bool → CoreValue → Taken → CoreValue → List Change → Type 0
TellsTaken answers old (Says l) new told = IsCore old × TellsLine answers old l new told
TellsTaken answers old (Comes l) new told = (ready : CoreValue) × IsCore ready × KeepsShort old ready × TellsLine answers ready l new told
TellsTaken answers old (Fails f) new told = (told ≡ AtFault f ∷ []) × (new ≡ old)

-- From one core to the other, over lines with these numbers: the outcome of each of them is
-- printed. After each, all changes that were reported, before and then, give the table and the due
-- summaries.
abbrev pub TellsLines : ChangeFilter → Bool → CoreValue → ℕ → List Taken → (before : List Change) → (text : List ℕ) → (after : List Change) → CoreValue → Type 0
TellsLines wanted answers old number [] before text after new = (text ≡ []) × (after ≡ before) × (new ≡ old)
TellsLines wanted answers old number (t ∷ taken) before text after new =
    (mid : CoreValue) × (told : List Change) × (rest : List ℕ) × TellsTaken answers old t mid told × Give (before ++ told) mid × (text ≡ lines_of number wanted told ++ rest)
    × TellsLines wanted answers mid (number + 1) taken (before ++ told) rest after new

-- ---- one line, printed

-- the line led from one core to the other, and its report was appended to the buffer
pub record ToldLine (wanted : ChangeFilter) (answers : Bool) (old : CoreValue) (number : ℕ) (l : Line) (new : CoreValue) (from to : Option (List ℕ)) (buffer put : List ℕ) : Type 0 where
  pub told : List Change
  pub tells : TellsLine answers old l new told
  pub printed : AddsLines from to buffer put (lines_of number wanted told)

-- the line was taken, likewise
pub record ToldTaken (wanted : ChangeFilter) (answers : Bool) (old : CoreValue) (number : ℕ) (t : Taken) (new : CoreValue) (from to : Option (List ℕ)) (buffer put : List ℕ) : Type 0 where
  pub told : List Change
  pub tells : TellsTaken answers old t new told
  pub printed : AddsLines from to buffer put (lines_of number wanted told)

-- memory ran out, and nothing was written
abbrev pub StopsBefore : PrintError → (from to : Option (List ℕ)) → Type 0
StopsBefore why from to = (why ≡ stop.Memory) × (to ≡ from)

-- the line was run, and a beginning of its report was written; or memory ran out over what follows
-- from its event
abbrev pub StopsAtLine : PrintError → ChangeFilter → Bool → CoreValue → ℕ → Line → CoreValue → (from to : Option (List ℕ)) → (buffer : List ℕ) → Type 0
StopsAtLine why wanted answers old number l new from to buffer =
    ((told : List Change) × TellsLine answers old l new told × AddsPart why from to (buffer ++ lines_of number wanted told)) ⊎ StopsBefore why from to

-- the line was taken, likewise
abbrev pub StopsAtTaken : PrintError → ChangeFilter → Bool → CoreValue → ℕ → Taken → CoreValue → (from to : Option (List ℕ)) → (buffer : List ℕ) → Type 0
StopsAtTaken why wanted answers old number t new from to buffer =
    ((told : List Change) × TellsTaken answers old t new told × AddsPart why from to (buffer ++ lines_of number wanted told)) ⊎ StopsBefore why from to

-- ---- all of them, printed

-- a beginning of the report of the lines was written
pub record ToldPart (why : PrintError) (wanted : ChangeFilter) (answers : Bool) (old : CoreValue) (number : ℕ) (taken : List Taken) (before : List Change) (from to : Option (List ℕ)) (buffer : List ℕ) : Type 0 where
  pub text : List ℕ
  pub after : List Change
  pub now : CoreValue
  pub run : TellsLines wanted answers old number taken before text after now
  pub part : AddsPart why from to (buffer ++ text)

-- the lines were taken, and their report was appended to the buffer
pub record LinesTaken (wanted : ChangeFilter) (answers : Bool) (old : CoreValue) (number : ℕ) (taken : List Taken) (before : List Change) (new : CoreValue) (from to : Option (List ℕ)) (buffer put : List ℕ) : Type 0 where
  pub text : List ℕ
  pub after : List Change
  pub run : TellsLines wanted answers old number taken before text after new
  pub printed : AddsLines from to buffer put text
