-- The end of a recording, with the changes of its last lines.
use Rattle.std.specs.Prelude.{ℕ, ◌+◌, ◌-◌, false, List, None, length, take, drop, map}
use Rattle.output_lines.specs.declared.format.Format.TheVariants.{Text}
use Rattle.event_core.specs.Cores.{CoreValue, IsCurrent}
use Rattle.recording.specs.declared.line.Line.{Line}
use Rattle.recording.specs.declared.version.Version.{Version}
use Rattle.replay.specs.Lines.{first_number}
use Rattle.replay.specs.Pages.{IsRunTo}
use Rattle.change_log.specs.Changes.{all_of}
use Rattle.change_log.specs.Lines.{Change}
use Rattle.change_log.specs.Runs.{Says, TellsLines}
use Rattle.change_log.specs.declared.printing.ChangeFilter.{ChangeFilter}

-- the last ten lines, and those of before
abbrev pub earlier_lines : List Line → List Line
earlier_lines lines = take (length lines - 10) lines

abbrev pub last_lines : List Line → List Line
last_lines lines = drop (length lines - 10) lines

-- the changes of all networks, in words
abbrev pub all_changes : ChangeFilter
all_changes = record { only = None; format = Text }

-- The lines lead from one core to the other, the first of them has this number, and these are their
-- changes, as `abr changes` prints them. The table reflects each of them.
pub record IsToldLast (old : CoreValue) (number : ℕ) (lines : List Line) (closed : CoreValue) (told : List ℕ) : Type 0 where
  pub before : IsCurrent old
  pub after : List Change
  pub run : TellsLines all_changes false old number (map Says lines) (all_of old) told after closed
  pub current : IsCurrent closed

-- the core, after the lines before, led to the other over the last ones
pub record IsRunToEnd (v : Version) (opened : CoreValue) (lines : List Line) (closed : CoreValue) (told : List ℕ) : Type 0 where
  pub middle : CoreValue
  pub earlier : IsRunTo opened (earlier_lines lines) middle
  pub last : IsToldLast middle (first_number v opened.base + length (earlier_lines lines)) (last_lines lines) closed told
