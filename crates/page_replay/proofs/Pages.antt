-- The page of a recording that was read, and where it is written.
use Rattle.std.proofs.Common.{◌≡◌, ℕ, List, Option, OnErr, Result, Ok, Err, subst}
use Rattle.std.specs.Io.KnownBytes.{Appends}
use Rattle.event_core.specs.Cores.{CoreValue}
use Rattle.recording.specs.declared.line.Line.{Line}
use Rattle.recording.specs.declared.version.Version.{Version}
use Rattle.recording.specs.Recordings.{RecordingValue}
use Rattle.replay.specs.Parts.{IsRecordingRead}
use Rattle.replay.specs.Runs.{IsOpened}
use Rattle.replay.specs.Writing.{AppendsPart}
use Rattle.replay.specs.declared.fault.ReplayFault.{ReplayFault}
use Rattle.page_replay.specs.Outputs.{IsMadePage, IsPageOf, WritesPage, WritesPagePart}

-- the fault of a writer that took a part only
pub part_of : (r : Result (Unit {0}) ReplayFault) (e : ReplayFault) (P : Type 0) → OnErr r P → r ≡ Err e → P
part_of (Ok u) e P part is = cc
part_of (Err x) e P part is = part

module _ (r : RecordingValue) (v : Version) (lines : List Line) (opened : CoreValue) (page shown : List ℕ) (is_page : shown ≡ page) (same_version : v ≡ r.version) (same_base : opened.base ≡ r.base) (same_lines : lines ≡ r.lines)
    (opening : IsOpened opened.base opened) (made : IsMadePage v opened lines page) (before after old new : Option (List ℕ)) (read : IsRecordingRead before after r) where
  its_page : IsPageOf r page
  its_page = record {
    opened = opened;
    opening = subst (λ b. IsOpened b opened) same_base opening;
    made = subst (λ (l : List Line). IsMadePage r.version opened l page) same_lines (subst (λ (w : Version). IsMadePage w opened lines page) same_version made);
  }

  pub writes : Appends old new shown → WritesPage before after old new
  writes written = record { bytes = read.bytes; read = read.read; recording = r; text = read.text; page = page; is = its_page; written = subst (λ (t : List ℕ). Appends old new t) is_page written }

  pub writes_part : AppendsPart old new shown → WritesPagePart before after old new
  writes_part written = record { bytes = read.bytes; read = read.read; recording = r; text = read.text; page = page; is = its_page; written = subst (λ (t : List ℕ). AppendsPart old new t) is_page written }
