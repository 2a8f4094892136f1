-- The output of a replay.
use Rattle.std.specs.Prelude.{ℕ, ◌≡◌, ◌++◌, List, All, Option, map}
use Rattle.std.specs.List.{flat_map}
use Rattle.std.specs.FinMap.{entries}
use Rattle.std.specs.Io.KnownBytes.{Appends}
use Rattle.ospf_types.specs.declared.key.Scope.{Scope}
use Rattle.ospf_types.specs.Lsa.{Lsa}
use Rattle.output_lines.specs.declared.format.Format.{Format}
use Rattle.event_core.specs.Cores.{CoreValue, state_of}
use Rattle.event_core.specs.Listings.{AreLsas}
use Rattle.event_state.specs.declared.base.Base.{Base}
use Rattle.recording.specs.declared.line.Line.{Line}
use Rattle.recording.specs.declared.line.Line.TheVariants as line
use Rattle.recording.specs.Recordings.{RecordingValue, IsText}
use Rattle.output_lines.specs.declared.format.Show.{Show}
use Rattle.recording.specs.declared.version.Version.{Version}
use Rattle.output_lines.specs.declared.format.Show.TheVariants as show
use Rattle.replay.specs.Lines.{first_number, serial_line, item_line, area_lines, lsa_line, recorded_text}
use Rattle.replay.specs.Runs.{Answers, Prints, IsOpened}
use Rattle.replay.specs.Inputs.{ReadsAll}
use Rattle.replay.specs.Pages.{HadMemory}
use Rattle.replay.specs.Stops.{IsBeginning}
use Rattle.replay.specs.declared.buffer.PrintError.{PrintError}
use Rattle.replay.specs.declared.printing.PrintOptions.{PrintOptions}

-- the recording was run with these answers to its events and rolls, and its lines printed this
pub record IsRun (format : Format) (r : RecordingValue) (answers : Answers) (printed : List ℕ) (closed : CoreValue) : Type 0 where
  pub opened : CoreValue
  pub opening : IsOpened r.base opened
  pub run : Prints format opened (first_number r.version r.base) r.lines answers printed closed

-- a recording of the version: a base, and lines
abbrev pub recording_of : Version → Base → List Line → RecordingValue
recording_of v base lines = record { version = v; base = base; lines = lines }

-- the recording, of the version, of the base and the events that were taken since
abbrev pub journal_of : Version → CoreValue → RecordingValue
journal_of v c = record { version = v; base = c.base; lines = map line.Event c.journal }

-- The text after the run: the lines of the run, the serials, and the state that is shown. Due
-- summaries are shown in the order of the areas, which ascend in a recording. The journal is shown
-- alone, after its base, in the version of the recording.
abbrev pub IsShown : Version → Show → Format → (printed : List ℕ) → CoreValue → (text : List ℕ) → Type 0
IsShown v show.Routes format printed c text = text ≡ printed ++ serial_line format c ++ flat_map (item_line format) (entries c.table.items)
IsShown v show.Due format printed c text = text ≡ printed ++ serial_line format c ++ flat_map (area_lines format) c.summaries
IsShown v show.Lsdb format printed c text =
    (lsas : List (Scope × Lsa)) × AreLsas (state_of c) lsas × (text ≡ printed ++ serial_line format c ++ flat_map (lsa_line format) lsas)
IsShown v show.Journal format printed c text = text ≡ recorded_text format (journal_of v c)

-- The output of a recording with these options, if its events and rolls had these answers. Some of
-- the events that the databases take may have been refused because memory ran out, and some
-- answered Behind. A roll may have been refused because memory ran out. Each of these is one of the
-- answers.
pub record IsOutput (r : RecordingValue) (p : PrintOptions) (answers : Answers) (text : List ℕ) : Type 0 where
  pub printed : List ℕ
  pub closed : CoreValue
  pub run : IsRun p.format r answers printed closed
  pub shown : IsShown r.version p.show p.format printed closed text

-- the text is the beginning of an output that such a stop leaves
pub record IsCutOutput (why : PrintError) (r : RecordingValue) (p : PrintOptions) (text : List ℕ) : Type 0 where
  pub answers : Answers
  pub whole : List ℕ
  pub output : IsOutput r p answers whole
  pub part : IsBeginning why text whole

-- A journal that is shown lacks no event for which memory ran out. The other shows print at its
-- line why an event was refused; the journal is shown alone, without such lines.
abbrev pub LosesNoEvent : Show → Answers → Type 0
LosesNoEvent show.Routes answers = Unit {0}
LosesNoEvent show.Due answers = Unit {0}
LosesNoEvent show.Lsdb answers = Unit {0}
LosesNoEvent show.Journal answers = All HadMemory answers

-- all the bytes that a reader had were a recording, and a writer's known bytes grew by its output
pub record Replays (p : PrintOptions) (before after : Option (List ℕ)) (old new : Option (List ℕ)) : Type 0 where
  pub bytes : List ℕ
  pub read : ReadsAll before after bytes
  pub recording : RecordingValue
  pub text : IsText bytes recording
  pub answers : Answers
  pub memory : LosesNoEvent p.show answers
  pub output : List ℕ
  pub is : IsOutput recording p answers output
  pub written : Appends old new output

-- all bytes of the reader were a recording, and the writer's known bytes grew by the beginning of
-- its output that such a stop leaves
pub record ReplaysPart (why : PrintError) (p : PrintOptions) (before after : Option (List ℕ)) (old new : Option (List ℕ)) : Type 0 where
  pub bytes : List ℕ
  pub read : ReadsAll before after bytes
  pub recording : RecordingValue
  pub text : IsText bytes recording
  pub part : List ℕ
  pub is : IsCutOutput why recording p part
  pub written : Appends old new part
