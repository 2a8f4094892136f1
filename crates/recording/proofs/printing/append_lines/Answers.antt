use Rattle.std.proofs.Common.{◌∙◌, All, sym, subst, refl, arith}
use Rattle.std.proofs.lemmas.Grind.{common_steps}
use Rattle.recording.specs.Recordings.{AreLsasOfBytes, HasKind}
use Rattle.recording.proofs.Pieces.{lines_none, lines_item, piece_appended, recording_appended}
use Rattle.recording.proofs.printing.append_lines.Goals as goal

pub loop-line-init : goal.loop-line-init
loop-line-init c = lines_none _ _

pub loop-line-preserved : goal.loop-line-preserved
loop-line-preserved c =
    let line = c.in_ok-append_line.ensures in
    let kinds = subst (All HasKind) (sym c.lines-line-items.ensures.value) c.lines-line-items.ensures.kept.kinds in
    let written = piece_appended _ _ _ _ _ c.in_ok-extend_from_slice-2.ensures.items (c.as_bytes-in-loop-line.ensures.value ∙ line.text) c.clear.ensures.bytes in
    lines_item _ _ _ _ _ c.line-item.result c.loop-line-test.true c.line-item.is kinds c.loop-line.invariant written line.form line.lsa

pub returns : goal.returns
returns c =
    let front = c.in_ok-append_preamble.ensures in
    let written = piece_appended _ _ _ _ _ c.in_ok-extend_from_slice.ensures.items (c.as_bytes.ensures.value ∙ front.text) c.new-text.ensures.bytes in
    let all = recording_appended _ _ _ c.args.recording.now _ _ _ _ c.version.ensures.value c.base.ensures.value c.lines-line-items.ensures.value c.loop-line-test.false written front.forms c.loop-line.invariant in
    record {
      ok = all.0.text;
      kept = grind (arith, common_steps);
      text = record { spelled = refl; forms = all.0.legal; held = subst (λ b. AreLsasOfBytes b.lsas) c.base.ensures.value front.lsas; lsas = all.1; kept = c.lines-line-items.ensures.kept };
    }
