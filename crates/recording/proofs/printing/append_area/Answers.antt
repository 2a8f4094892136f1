use Rattle.ospf_types.specs.declared.config.Range.{Range}
use Rattle.recording.specs.Forms.{RangeLine}
use Rattle.recording.proofs.Pieces.{appended_line, area_appended}
use Rattle.recording.proofs.printing.append_area.Goals as goal

pub loop-range-preserved : goal.loop-range-preserved
loop-range-preserved c =
    appended_line (λ (range : Range). RangeLine c.args.area.now.id range) _ _ _ _ _ c.range-item.result c.loop-range-test.true c.range-item.is c.loop-range.invariant c.in_ok-append_range.ensures.text c.in_ok-append_range.ensures.form

pub returns : goal.returns
returns c =
    let line = c.in_ok-append_area_line.ensures in
    let h = area_appended _ _ _ c.args.area.now _ _ c.as_slice-range-items.ensures c.loop-range-test.false line.text line.form c.loop-range.invariant in
    record { text = h.text; forms = h.legal }
