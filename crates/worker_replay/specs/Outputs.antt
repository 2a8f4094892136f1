-- The output of a replay over several workers.
use Rattle.std.specs.Prelude.{ℕ, List, Option}
use Rattle.std.specs.Io.KnownBytes.{Appends}
use Rattle.engine.specs.Cores.{CoreValue}
use Rattle.recording.specs.Recordings.{RecordingValue, IsText}
use Rattle.replay.specs.declared.printing.PrintOptions.{PrintOptions}
use Rattle.replay.specs.declared.buffer.PrintError.{PrintError}
use Rattle.replay.specs.Inputs.{ReadsAll}
use Rattle.replay.specs.Stops.{IsBeginning}
use Rattle.replay.specs.Outputs.{IsShown}
use Rattle.worker_replay.specs.Runs.{Answers, IsWorkerRun}

-- The output of a recording for a show, if its events had these answers. They may have been taken
-- in any order that keeps the order of each worker. Some may have been refused because memory ran
-- out, and some answered Behind; each of these is one of the answers. All `roll` lines together are
-- one roll after the last event.
pub record IsOutput (r : RecordingValue) (p : PrintOptions) (answers : Answers) (text : List ℕ) : Type 0 where
  pub printed : List ℕ
  pub closed : CoreValue
  pub run : IsWorkerRun p.format r answers printed closed
  pub shown : IsShown r.version p.show p.format printed closed text

-- the text is the beginning of an output that such a stop leaves
pub record IsCutOutput (why : PrintError) (r : RecordingValue) (p : PrintOptions) (text : List ℕ) : Type 0 where
  pub answers : Answers
  pub whole : List ℕ
  pub output : IsOutput r p answers whole
  pub part : IsBeginning why text whole

-- all the bytes that a reader had were a recording, and a writer's known bytes grew by its output
pub record Replays (p : PrintOptions) (before after : Option (List ℕ)) (old new : Option (List ℕ)) : Type 0 where
  pub bytes : List ℕ
  pub read : ReadsAll before after bytes
  pub recording : RecordingValue
  pub text : IsText bytes recording
  pub answers : Answers
  pub output : List ℕ
  pub is : IsOutput recording p answers output
  pub written : Appends old new output

-- all bytes of the reader were a recording, and the writer's known bytes grew by the beginning of
-- its output that such a stop leaves
pub record ReplaysPart (why : PrintError) (p : PrintOptions) (before after : Option (List ℕ)) (old new : Option (List ℕ)) : Type 0 where
  pub bytes : List ℕ
  pub read : ReadsAll before after bytes
  pub recording : RecordingValue
  pub text : IsText bytes recording
  pub part : List ℕ
  pub is : IsCutOutput why recording p part
  pub written : Appends old new part
