use Rattle.std.proofs.Common.{List, ℕ, subst, string_bytes}
use Rattle.std.proofs.lemmas.Result.{on_ok_weaker}
use Rattle.std.specs.Io.KnownBytes.{Appends}
use Rattle.replay.specs.Writing.{AppendsPart}
use Rattle.replay.proofs.Written.{appends_more}
use Rattle.capture_recording.specs.Gathering.{waiting}
use Rattle.capture_recording.specs.Kept.{kept_if}
use Rattle.capture_recording.proofs.Putting.{err_behind, writes_part}
use Rattle.capture_recording.proofs.Said.{part_more}
use Rattle.capture_recording.proofs.session.Session.write_waiting.Goals as goal

pub returns-in-Ok-clause-ok : goal.returns-in-Ok-clause-ok
returns-in-Ok-clause-ok g c =
    let lines = subst (λ (l : List ℕ). Appends (g.W.Write.contents c.args.out.now) (g.W.Write.contents c.write_out.new.out) l) c.as_bytes.ensures.value c.in-Ok.ensures.ok in
    on_ok_weaker c.write_kept.result (λ kept. appends_more _ _ _ _ _ lines kept) c.write_kept.ensures.ok

pub returns-in-Ok-clause-err : goal.returns-in-Ok-clause-err
returns-in-Ok-clause-err g c =
    let lines = subst (λ (l : List ℕ). Appends (g.W.Write.contents c.args.out.now) (g.W.Write.contents c.write_out.new.out) l) c.as_bytes.ensures.value c.in-Ok.ensures.ok in
    err_behind _ _ _ _ _ c.write_kept.result lines c.write_kept.ensures.err

pub returns-in-Err-clause-err : goal.returns-in-Err-clause-err
returns-in-Err-clause-err g c =
    let part = subst (λ (l : List ℕ). AppendsPart (g.W.Write.contents c.args.out.now) (g.W.Write.contents c.write_out.new.out) l) c.as_bytes.ensures.value c.in-Err.ensures.err in
    writes_part _ _ (waiting c.args.self.now) c.in-Err.fault c.in-Err.ensures.fault (part_more _ _ (string_bytes c.args.self.now.lines) (kept_if c.args.self.now.kept) part)
