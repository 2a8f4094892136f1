-- A run whose preamble was reported, and how a run is closed.
use Rattle.std.specs.Prelude.{ℕ, ◌≡◌, ◌+◌, ◌++◌, List, [], length, map, take, Option, Result, Ok, Err, string_bytes}
use Rattle.std.specs.Io.KnownBytes.{Appends}
use Rattle.event_core.specs.Cores.{CoreValue, IsCore, IsCurrent}
use Rattle.recording.specs.Recordings.{RecordingValue}
use Rattle.replay.specs.Lines.{first_number}
use Rattle.replay.specs.Pages.{AddsLines, AddsPart}
use Rattle.replay.specs.Runs.{IsOpened}
use Rattle.replay.specs.Stops.{IsBeginning}
use Rattle.replay.specs.declared.fault.ReplayFault.{ReplayFault}
use Rattle.replay.specs.declared.fault.ReplayFault.TheVariants as replay_fault
use Rattle.replay.specs.declared.buffer.PrintError.{PrintError}
use Rattle.replay.specs.declared.buffer.PrintError.TheVariants as stop
use Rattle.change_log.specs.Lines.{Change}
use Rattle.change_log.specs.Changes.{all_of}
use Rattle.change_log.specs.Runs.{Says, TellsLines}
use Rattle.change_log.specs.Outputs.{IsTelling, base_lines}
use Rattle.change_log.specs.declared.following.End.{End}
use Rattle.change_log.specs.declared.following.End.TheVariants as end
use Rattle.change_log.specs.declared.following.Run.{Run}
use Rattle.change_log.specs.declared.printing.ChangeOptions.{ChangeOptions}

-- the base was reported, and so were the lines of the recording
pub record IsRunBegun (t : ChangeOptions) (r : RecordingValue) (run : Run) (from to : Option (List ℕ)) : Type 0 where
  pub version : run.version ≡ r.version
  pub skips_faults : run.skips_faults ≡ t.skips_faults
  pub wanted : run.at.wanted ≡ t.wanted
  pub answers : run.at.answers ≡ t.answers
  pub number : run.at.number ≡ first_number r.version r.base + length r.lines
  pub core : IsCore run.core
  pub current : IsCurrent run.core
  pub opened : CoreValue
  pub opening : IsOpened r.base opened
  pub told : List ℕ
  pub after : List Change
  pub lines : TellsLines t.wanted t.answers opened (first_number r.version r.base) (map Says r.lines) (all_of opened) told after run.core
  pub printed : AddsLines from to [] (string_bytes run.buffer) (base_lines t.wanted r opened ++ told)

-- a beginning of it was written
pub record StopsAtBase (why : PrintError) (t : ChangeOptions) (r : RecordingValue) (from to : Option (List ℕ)) : Type 0 where
  pub count : ℕ
  pub whole : List ℕ
  pub telling : IsTelling t (record r { lines = take count r.lines }) [] whole
  pub part : List ℕ
  pub beginning : IsBeginning why part whole
  pub written : Appends from to part

-- The rest of the buffer is written, and the end is returned; or a beginning of it was written.
abbrev pub Closes : Run → End → Result Unit ReplayFault → (from to : Option (List ℕ)) → Type 0
Closes run e (Ok u) from to = (e ≡ end.Over) × AddsLines from to (string_bytes run.buffer) [] []
Closes run e (Err replay_fault.Read) from to = (e ≡ end.Unread) × AddsLines from to (string_bytes run.buffer) [] []
Closes run e (Err (replay_fault.Line f)) from to = (e ≡ end.AtFault f.fault) × (f.line ≡ run.at.number) × AddsLines from to (string_bytes run.buffer) [] []
Closes run e (Err replay_fault.Write) from to = AddsPart stop.Write from to (string_bytes run.buffer)
Closes run e (Err replay_fault.Closed) from to = AddsPart stop.Closed from to (string_bytes run.buffer)
Closes run e (Err replay_fault.Memory) from to = ⊥
