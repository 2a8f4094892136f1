-- The report of the lines that were read: the changes of each.
use Rattle.std.specs.Prelude.{ℕ, ◌≡◌, ◌≢◌, ◌-◌, ◌+◌, ◌⊎◌, ◌++◌, false, List, [], length, Option, map, take}
use Rattle.std.specs.Io.KnownBytes.{Appends, IsAtEnd}
use Rattle.change_log.specs.declared.printing.ChangeFilter.{ChangeFilter}
use Rattle.event_core.specs.Cores.{CoreValue}
use Rattle.input_reading.specs.Shortened.{shortened}
use Rattle.input_reading.specs.Tails.{HasNoLineFeed}
use Rattle.recording.specs.Recordings.{RecordingValue, IsText}
use Rattle.recording.specs.declared.fault.Fault.TheVariants as fault
use Rattle.recording.specs.declared.fault.LineFault.{LineFault}
use Rattle.replay.specs.Inputs.{ReadsAll}
use Rattle.replay.specs.Lines.{first_number}
use Rattle.replay.specs.Runs.{IsOpened}
use Rattle.replay.specs.Stops.{IsBeginning}
use Rattle.replay.specs.declared.buffer.PrintError.{PrintError}
use Rattle.change_log.specs.Lines.{Change, lines_of}
use Rattle.change_log.specs.Changes.{Give, all_of}
use Rattle.change_log.specs.Runs.{Fails, Says, Taken, TellsLines}
use Rattle.change_log.specs.Streams.{NoneFails, AreLinesTaken, ComesFrom, IsFaultOfFront, IsLineReadAs, lines_in}
use Rattle.change_log.specs.declared.printing.ChangeOptions.{ChangeOptions}

-- the base is reported at its last line
abbrev pub base_lines : ChangeFilter → RecordingValue → CoreValue → List ℕ
base_lines wanted r opened = lines_of (first_number r.version r.base - 1) wanted (all_of opened)

-- The text reports the base of the recording, and then the outcome of each of its lines and of
-- those after them. Applied in order, starting with nothing, the changes give the table and the due
-- summaries after each line.
pub record IsTelling (t : ChangeOptions) (r : RecordingValue) (taken : List Taken) (text : List ℕ) : Type 0 where
  pub opened : CoreValue
  pub opening : IsOpened r.base opened
  pub given : Give (all_of opened) opened
  pub told : List ℕ
  pub after : List Change
  pub closed : CoreValue
  pub run : TellsLines t.wanted t.answers opened (first_number r.version r.base) (map Says r.lines ++ taken) (all_of opened) told after closed
  pub is : text ≡ base_lines t.wanted r opened ++ told

-- The bytes are the text of a recording, followed by lines that were taken. If none may be skipped,
-- none of them has a fault, and all bytes are the text of one.
pub record AreRecordingBytes (t : ChangeOptions) (bytes : List ℕ) (r : RecordingValue) (taken : List Taken) : Type 0 where
  pub front : List ℕ
  pub behind : List ℕ
  pub joined : bytes ≡ front ++ behind
  pub text : IsText front r
  pub lines : AreLinesTaken r.version behind taken
  pub said : t.skips_faults ≡ false → NoneFails taken
  pub whole : t.skips_faults ≡ false → IsText bytes (record r { lines = r.lines ++ lines_in taken })

-- the report of the bytes
pub record IsTellingOf (t : ChangeOptions) (bytes text : List ℕ) : Type 0 where
  pub recording : RecordingValue
  pub taken : List Taken
  pub are : AreRecordingBytes t bytes recording taken
  pub telling : IsTelling t recording taken text

-- all bytes of the reader were taken, and their report was written
pub record TellsAll (t : ChangeOptions) (before after : Option (List ℕ)) (old new : Option (List ℕ)) : Type 0 where
  pub bytes : List ℕ
  pub read : ReadsAll before after bytes
  pub text : List ℕ
  pub is : IsTellingOf t bytes text
  pub written : Appends old new text

-- these bytes were read, and their report was written
pub record TellsThese (t : ChangeOptions) (before after : Option (List ℕ)) (bytes : List ℕ) (old new : Option (List ℕ)) : Type 0 where
  pub comes : ComesFrom before after bytes
  pub text : List ℕ
  pub is : IsTellingOf t bytes text
  pub written : Appends old new text

-- These bytes were read. Of their report, or of the report of the first lines of the recording at
-- their beginning, the beginning was written that such a stop leaves.
pub record TellsPart (why : PrintError) (t : ChangeOptions) (before after : Option (List ℕ)) (old new : Option (List ℕ)) : Type 0 where
  pub bytes : List ℕ
  pub comes : ComesFrom before after bytes
  pub recording : RecordingValue
  pub taken : List Taken
  pub are : AreRecordingBytes t bytes recording taken
  pub count : ℕ
  pub whole : List ℕ
  pub telling : IsTelling t (record recording { lines = take count recording.lines }) taken whole
  pub part : List ℕ
  pub beginning : IsBeginning why part whole
  pub written : Appends old new part

-- the fault is one of the lines at the front, up to the first that is none of it
pub record FailsAtFront (before after : Option (List ℕ)) (f : LineFault) : Type 0 where
  pub bytes : List ℕ
  pub comes : ComesFrom before after bytes
  pub is : IsFaultOfFront bytes f

-- The report of the lines before was written, and the next line, of this number, has a fault. It is
-- one that is not skipped, or one without a line feed, with which the input ends.
pub record FailsBehind (t : ChangeOptions) (before after : Option (List ℕ)) (f : LineFault) (old new : Option (List ℕ)) : Type 0 where
  pub bytes : List ℕ
  pub text : List ℕ
  pub recording : RecordingValue
  pub taken : List Taken
  pub are : AreRecordingBytes t bytes recording taken
  pub telling : IsTelling t recording taken text
  pub written : Appends old new text
  pub raw : List ℕ
  pub line : HasNoLineFeed raw
  pub comes : ComesFrom before after (bytes ++ raw)
  pub fault : IsLineReadAs recording.version (shortened raw) (Fails f.fault) ⊎ ((raw ≢ []) × (f.fault ≡ fault.Truncated) × IsAtEnd after)
  pub number : f.line ≡ first_number recording.version recording.base + (length recording.lines + length taken)
