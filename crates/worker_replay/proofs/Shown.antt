-- The state that is shown was written, or a beginning of it.
use Rattle.std.proofs.Common.{◌≡◌, ℕ, List, [], ◌++◌, Option, refl, sym, ap, subst, inl, ◌∙◌, append-nil}
use Rattle.std.specs.Io.KnownBytes.{Appends}
use Rattle.engine.specs.Cores.{CoreValue}
use Rattle.output_lines.specs.declared.format.Show.{Show}
use Rattle.output_lines.specs.declared.format.Format.{Format}
use Rattle.recording.specs.declared.version.Version.{Version}
use Rattle.replay.specs.declared.buffer.PrintError.{PrintError}
use Rattle.replay.specs.declared.buffer.PrintError.TheVariants as stop
use Rattle.replay.specs.Stops.{AreWholeLines}
use Rattle.replay.specs.Outputs.{IsShown}
use Rattle.replay.specs.Pages.{AddsLines, AddsPart}
use Rattle.replay.proofs.Written.{appends_none}
use Rattle.replay.proofs.Paging.{adds_moved, part_moved}
use Rattle.worker_replay.specs.Parts.{Writes, WritesPart}

module _ (v : Version) (s : Show) (format : Format) (printed : List ℕ) (c : CoreValue) (a b : Option (List ℕ)) (front put tail : List ℕ) (same : put ≡ front) (shown : IsShown v s format printed c (front ++ tail)) where
  -- only a beginning of it
  pub shown_cut : (why : PrintError) → AreWholeLines front → (AreWholeLines put → AddsPart why a b (put ++ tail)) → WritesPart why v s format printed c a b
  shown_cut why whole stopped = record { whole = front ++ tail; shown = shown; part = subst (λ w. AddsPart why a b (w ++ tail)) same (stopped (subst AreWholeLines (sym same) whole)) }

  -- the end of it was in the buffer, which was written in part
  pub end_cut : (why : PrintError) → AreWholeLines front → (d : Option (List ℕ)) (moved : List ℕ) → AddsLines a b put moved tail → AddsPart why b d moved → WritesPart why v s format printed c a d
  end_cut why whole d moved added stopped = record {
    whole = front ++ tail;
    shown = shown;
    part = subst (λ w. AddsPart why a d (w ++ tail)) same (part_moved why a b d put moved tail (subst AreWholeLines (sym same) whole) added stopped);
  }

  -- the buffer was written
  pub shown_whole : (d : Option (List ℕ)) (moved last : List ℕ) → AddsLines a b put moved tail → AddsLines b d moved last [] → last ≡ [] → Writes v s format printed c a d
  shown_whole d moved last added written none =
      let all = adds_moved a b d put moved last tail added written in
      let whole : all.written ≡ front ++ tail = sym (append-nil all.written) ∙ ap (λ l. all.written ++ l) (sym none) ∙ sym all.joined ∙ ap (λ w. w ++ tail) same in
      record { text = front ++ tail; shown = shown; written = subst (Appends a d) whole all.appended }

-- memory ran out before anything was written
pub none_written : (v : Version) (s : Show) (format : Format) (printed : List ℕ) (c : CoreValue) (a : Option (List ℕ)) (whole : List ℕ) → IsShown v s format printed c whole → WritesPart stop.Memory v s format printed c a a
none_written v s format printed c a whole shown =
    record { whole = whole; shown = shown; part = record { part = []; beginning = record { rest = whole; joined = refl; left = inl refl }; appended = appends_none a } }
