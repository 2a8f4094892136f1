use Rattle.std.proofs.Common.{subst}
use Rattle.recording.specs.Recordings.{AreLsasOfBytes}
use Rattle.recording.proofs.Pieces.{front_appended}
use Rattle.recording.proofs.printing.append_preamble.Goals as goal

pub returns : goal.returns
returns c =
    let header = c.in_ok-append_header.ensures in
    let interfaces = c.in_ok-append_has_interfaces.ensures in
    let lsas = c.in_ok-append_has_lsas.ensures in
    let h = front_appended _ _ _ _ c.args.version c.args.base.now _ _ c.as_slice.ensures c.as_slice-2.ensures (record { text = header.text; legal = header.forms }) (record { text = interfaces.text; legal = interfaces.forms }) (record { text = lsas.text; legal = lsas.forms }) in
    record { text = h.text; forms = h.legal; lsas = subst AreLsasOfBytes c.as_slice-2.ensures lsas.lsas }
