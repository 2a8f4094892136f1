-- Lines that are taken as they come: from one state of a run to the next.
use Rattle.std.specs.Prelude.{ℕ, ◌≡◌, ◌≢◌, ◌+◌, ◌⊎◌, ◌++◌, false, List, [], ◌∷◌, length, Option, Some, None, string_bytes}
use Rattle.std.specs.Io.KnownBytes.{Consumes, IsAtEnd, prepend_known}
use Rattle.event_core.specs.Cores.{IsCore, IsCurrent}
use Rattle.input_reading.specs.Shortened.{shortened}
use Rattle.input_reading.specs.Tails.{HasNoLineFeed}
use Rattle.recording.specs.declared.fault.Fault.{Fault}
use Rattle.recording.specs.declared.fault.Fault.TheVariants as fault
use Rattle.replay.specs.declared.buffer.PrintError.{PrintError}
use Rattle.change_log.specs.declared.following.End.{End}
use Rattle.change_log.specs.declared.following.End.TheVariants as end
use Rattle.change_log.specs.declared.following.Run.{Run}
use Rattle.recording.specs.declared.version.Version.{Version}
use Rattle.change_log.specs.Changes.{Give}
use Rattle.change_log.specs.Openings.{IsPreambleWhole, OpensPreamble}
use Rattle.change_log.specs.declared.opening.PreambleEnd.{PreambleEnd}
use Rattle.input_reading.specs.Taking as input
use Rattle.change_log.specs.Lines.{Change}
use Rattle.change_log.specs.Runs.{Fails, Taken, LinesTaken, ToldPart, ToldTaken}
use Rattle.change_log.specs.Streams.{NoneFails, AreLinesTaken, ComesFrom, IsLineReadAs}

-- the parts of a run that stay
pub record IsSameRun (old new : Run) : Type 0 where
  pub version : new.version ≡ old.version
  pub skips_faults : new.skips_faults ≡ old.skips_faults
  pub progress : new.progress ≡ old.progress
  pub wanted : new.at.wanted ≡ old.at.wanted
  pub answers : new.at.answers ≡ old.at.answers

-- ---- one line

-- the line that was read was taken, and its report was appended to the buffer
pub record IsLineTaken (old new : Run) (from to : Option (List ℕ)) : Type 0 where
  pub same : IsSameRun old new
  pub taken : Taken
  pub reads : IsLineReadAs old.version old.line.items taken
  pub said : old.skips_faults ≡ false → NoneFails (taken ∷ [])
  pub told : ToldTaken old.at.wanted old.at.answers old.core old.at.number taken new.core from to (string_bytes old.buffer) (string_bytes new.buffer)
  pub core : IsCore new.core
  pub current : IsCurrent new.core

-- the line that was read has this fault, and nothing changed
pub record IsLineLeft (f : Fault) (old new : Run) (from to : Option (List ℕ)) : Type 0 where
  pub same : IsSameRun old new
  pub counted : new.at.number ≡ old.at.number
  pub reads : IsLineReadAs old.version old.line.items (Fails f)
  pub core : new.core ≡ old.core
  pub buffer : string_bytes new.buffer ≡ string_bytes old.buffer
  pub out : to ≡ from

abbrev pub ReportsLine : Option Fault → (old new : Run) → (from to : Option (List ℕ)) → Type 0
ReportsLine None old new from to = IsLineTaken old new from to × (new.at.number ≡ old.at.number)
ReportsLine (Some f) old new from to = IsLineLeft f old new from to

abbrev pub TakesOneLine : Option Fault → (old new : Run) → (from to : Option (List ℕ)) → Type 0
TakesOneLine None old new from to = IsLineTaken old new from to × (new.at.number ≡ old.at.number + 1)
TakesOneLine (Some f) old new from to = IsLineLeft f old new from to

-- the line that was read was taken as this, or it was not taken
abbrev pub IsFirstTaken : Version → List ℕ → List Taken → Type 0
IsFirstTaken v line [] = Unit {0}
IsFirstTaken v line (t ∷ taken) = IsLineReadAs v line t × (taken ≡ [])

-- The line that was read was taken, and a beginning of its report was written; or it was not.
pub record StopsTaking (why : PrintError) (old : Run) (from to : Option (List ℕ)) : Type 0 where
  pub taken : List Taken
  pub reads : IsFirstTaken old.version old.line.items taken
  pub said : old.skips_faults ≡ false → NoneFails taken
  pub part : (before : List Change) → Give before old.core → ToldPart why old.at.wanted old.at.answers old.core old.at.number taken before from to (string_bytes old.buffer)

-- ---- lines, one after the other

-- these bytes were taken, and the report of their lines was appended to the buffer
pub record AreBytesFollowed (before : List Change) (bytes : List ℕ) (old new : Run) (from to : Option (List ℕ)) : Type 0 where
  pub same : IsSameRun old new
  pub taken : List Taken
  pub lines : AreLinesTaken old.version bytes taken
  pub said : old.skips_faults ≡ false → NoneFails taken
  pub counted : new.at.number ≡ old.at.number + length taken
  pub told : LinesTaken old.at.wanted old.at.answers old.core old.at.number taken before new.core from to (string_bytes old.buffer) (string_bytes new.buffer)

-- the next line has this fault, or the last one has no line feed
pub record IsAtFault (f : Fault) (before : List Change) (old new : Run) (held : List ℕ) (known left : Option (List ℕ)) (from to : Option (List ℕ)) : Type 0 where
  pub bytes : List ℕ
  pub followed : AreBytesFollowed before bytes old new from to
  pub raw : List ℕ
  pub line : HasNoLineFeed raw
  pub comes : ComesFrom (prepend_known held known) left (bytes ++ raw)
  pub is : IsLineReadAs old.version (shortened raw) (Fails f) ⊎ ((raw ≢ []) × (f ≡ fault.Truncated) × IsAtEnd left)

-- the end: the input is over, it could not be read further, or a line has a fault
abbrev pub Ends : End → (before : List Change) → (old new : Run) → (held : List ℕ) → (known left : Option (List ℕ)) → (from to : Option (List ℕ)) → Type 0
Ends end.Over before old new held known left from to =
    (bytes : List ℕ) × AreBytesFollowed before bytes old new from to × Consumes (prepend_known held known) left bytes × IsAtEnd left
Ends end.Unread before old new held known left from to = (bytes : List ℕ) × AreBytesFollowed before bytes old new from to × ComesFrom (prepend_known held known) left bytes
Ends (end.AtFault f) before old new held known left from to = IsAtFault f before old new held known left from to

-- a beginning of the report of these bytes was written
pub record StopsIn (why : PrintError) (before : List Change) (old : Run) (held : List ℕ) (known left : Option (List ℕ)) (from to : Option (List ℕ)) : Type 0 where
  pub bytes : List ℕ
  pub comes : ComesFrom (prepend_known held known) left bytes
  pub taken : List Taken
  pub lines : AreLinesTaken old.version bytes taken
  pub said : old.skips_faults ≡ false → NoneFails taken
  pub part : ToldPart why old.at.wanted old.at.answers old.core old.at.number taken before from to (string_bytes old.buffer)

-- ---- lines after the preamble, one of which ended it

-- The end after a preamble, whichever that is.
abbrev pub EndsBehind : PreambleEnd → End → (old new : Run) → (kept : List ℕ) → (left further : Option (List ℕ)) → (from to : Option (List ℕ)) → Type 0
EndsBehind front e old new kept left further from to =
    (text held : List ℕ) → (known : Option (List ℕ)) → IsPreambleWhole front → OpensPreamble front text old.line.items held known kept left → (before : List Change) → Give before old.core
    → (mid : List ℕ) × (rest : Option (List ℕ)) × input.Takes held known mid rest text × Ends e before old new mid rest further from to

-- it stops after a preamble
abbrev pub StopsBehind : PreambleEnd → PrintError → (old : Run) → (kept : List ℕ) → (left further : Option (List ℕ)) → (from to : Option (List ℕ)) → Type 0
StopsBehind front why old kept left further from to =
    (text held : List ℕ) → (known : Option (List ℕ)) → IsPreambleWhole front → OpensPreamble front text old.line.items held known kept left → (before : List Change) → Give before old.core
    → (mid : List ℕ) × (rest : Option (List ℕ)) × input.Takes held known mid rest text × StopsIn why before old mid rest further from to
