-- The page of a recording, and where it is written.
use Rattle.std.specs.Prelude.{ℕ, List, Option}
use Rattle.std.specs.Io.KnownBytes.{Appends}
use Rattle.event_core.specs.Cores.{CoreValue}
use Rattle.recording.specs.declared.line.Line.{Line}
use Rattle.recording.specs.declared.version.Version.{Version}
use Rattle.recording.specs.Recordings.{RecordingValue, IsText}
use Rattle.replay.specs.Inputs.{ReadsAll}
use Rattle.replay.specs.Runs.{IsOpened}
use Rattle.replay.specs.Writing.{AppendsPart}
use Rattle.page_replay.specs.Ending.{IsRunToEnd}
use Rattle.page_replay.specs.Sections.{IsPage}

-- a core was run over the lines of a recording of the version, and the page shows its end and the
-- changes of the last lines
pub record IsMadePage (v : Version) (opened : CoreValue) (lines : List Line) (page : List ℕ) : Type 0 where
  pub closed : CoreValue
  pub told : List ℕ
  pub ended : IsRunToEnd v opened lines closed told
  pub shown : IsPage closed told page

-- the recording was run to its end, and this is its page
pub record IsPageOf (r : RecordingValue) (page : List ℕ) : Type 0 where
  pub opened : CoreValue
  pub opening : IsOpened r.base opened
  pub made : IsMadePage r.version opened r.lines page

-- all the bytes that a reader had were a recording, and a writer's known bytes grew by its page
pub record WritesPage (before after old new : Option (List ℕ)) : Type 0 where
  pub bytes : List ℕ
  pub read : ReadsAll before after bytes
  pub recording : RecordingValue
  pub text : IsText bytes recording
  pub page : List ℕ
  pub is : IsPageOf recording page
  pub written : Appends old new page

-- all bytes of the reader were a recording, and the writer's known bytes grew by a beginning of its
-- page, and not by all of it
pub record WritesPagePart (before after old new : Option (List ℕ)) : Type 0 where
  pub bytes : List ℕ
  pub read : ReadsAll before after bytes
  pub recording : RecordingValue
  pub text : IsText bytes recording
  pub page : List ℕ
  pub is : IsPageOf recording page
  pub written : AppendsPart old new page
