use Rattle.recording.specs.Recordings.{area_forms}
use Rattle.recording.proofs.Pieces.{appended_item, header_appended}
use Rattle.recording.proofs.printing.append_header.Goals as goal

pub loop-area-preserved : goal.loop-area-preserved
loop-area-preserved c =
    appended_item area_forms _ _ _ _ _ c.area-item.result c.loop-area-test.true c.area-item.is c.loop-area.invariant c.in_ok-append_area.ensures.text c.in_ok-append_area.ensures.forms

pub returns : goal.returns
returns c =
    let front = c.in_ok-append_first.ensures in
    let h = header_appended _ _ _ c.args.version c.args.base.now _ _ c.as_slice-area-items.ensures c.loop-area-test.false front.text front.forms c.loop-area.invariant in
    record { text = h.text; forms = h.legal }
