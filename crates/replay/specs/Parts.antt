-- The parts of a replay: a recording is read, a core is opened, and the output is printed.
use Rattle.std.specs.Prelude.{ℕ, ◌≡◌, ◌<◌, ◌+◌, ◌^◌, ◌⊎◌, List, [], length, take, Option}
use Rattle.std.specs.Io.KnownBytes.{Appends}
use Rattle.recording.specs.Recordings.{RecordingValue, IsText}
use Rattle.recording.specs.Faults.{IsFaultOf}
use Rattle.event_core.specs.Cores.{CoreValue}
use Rattle.replay.specs.declared.fault.ReplayFault.{ReplayFault}
use Rattle.replay.specs.declared.fault.ReplayFault.TheVariants as fault
use Rattle.replay.specs.declared.buffer.PrintError.{PrintError}
use Rattle.replay.specs.declared.buffer.PrintError.TheVariants as stop
use Rattle.replay.specs.declared.printing.PrintOptions.{PrintOptions}
use Rattle.output_lines.specs.declared.format.Show.{Show}
use Rattle.output_lines.specs.declared.format.Show.TheVariants as show
use Rattle.replay.specs.Lines.{first_number}
use Rattle.replay.specs.Runs.{Answers, IsOpened}
use Rattle.replay.specs.Inputs.{ReadsAll}
use Rattle.replay.specs.Stops.{IsBeginning}
use Rattle.replay.specs.Outputs.{IsRun, IsOutput, IsCutOutput, LosesNoEvent}

-- all bytes of the reader were the recording's text, and its lines are few enough to be numbered
pub record IsRecordingRead (before after : Option (List ℕ)) (r : RecordingValue) : Type 0 where
  pub bytes : List ℕ
  pub read : ReadsAll before after bytes
  pub text : IsText bytes r
  pub few : first_number r.version r.base + length r.lines < 2 ^ 64

-- the bytes are the recording's text; its lines are few enough to be numbered
pub record IsParsed (bytes : List ℕ) (r : RecordingValue) : Type 0 where
  pub text : IsText bytes r
  pub few : first_number r.version r.base + length r.lines < 2 ^ 64

-- the reason why a recording is not read
abbrev pub IsReadFault : (before after : Option (List ℕ)) → ReplayFault → Type 0
IsReadFault before after fault.Read = Unit {0}
IsReadFault before after fault.Write = ⊥
IsReadFault before after fault.Closed = ⊥
IsReadFault before after fault.Memory = Unit {0}
IsReadFault before after (fault.Line f) = (bytes : List ℕ) × ReadsAll before after bytes × IsFaultOf bytes f

-- a writer's known bytes grew by an output of the recording
pub record WritesOutput (r : RecordingValue) (p : PrintOptions) (old new : Option (List ℕ)) : Type 0 where
  pub answers : Answers
  pub memory : LosesNoEvent p.show answers
  pub output : List ℕ
  pub is : IsOutput r p answers output
  pub written : Appends old new output

-- ---- where printing stops

-- a core was opened, and memory ran out before anything was written
pub record IsReplayBegun (why : PrintError) (r : RecordingValue) (text : List ℕ) : Type 0 where
  pub opened : CoreValue
  pub opening : IsOpened r.base opened
  pub cause : why ≡ stop.Memory
  pub none : text ≡ []

-- the lines of the run are printed with this show
abbrev pub PrintsRun : Show → Type 0
PrintsRun show.Routes = Unit {0}
PrintsRun show.Due = Unit {0}
PrintsRun show.Lsdb = Unit {0}
PrintsRun show.Journal = ⊥

-- the run came this far, with a show that prints its lines, and the text is the beginning of their
-- output
pub record IsCutRun (why : PrintError) (r : RecordingValue) (p : PrintOptions) (text : List ℕ) : Type 0 where
  pub prints : PrintsRun p.show
  pub count : ℕ
  pub answers : Answers
  pub printed : List ℕ
  pub now : CoreValue
  pub run : IsRun p.format (record r { lines = take count r.lines }) answers printed now
  pub part : IsBeginning why text printed

-- the text that may have been written when printing stops
abbrev pub IsCut : PrintError → RecordingValue → PrintOptions → List ℕ → Type 0
IsCut why r p text = IsReplayBegun why r text ⊎ IsCutRun why r p text ⊎ IsCutOutput why r p text

-- a writer's known bytes grew by what such a stop leaves of what is to be written
pub record WritesPart (why : PrintError) (r : RecordingValue) (p : PrintOptions) (old new : Option (List ℕ)) : Type 0 where
  pub part : List ℕ
  pub is : IsCut why r p part
  pub written : Appends old new part
