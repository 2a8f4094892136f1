use Rattle.captured_config.proofs.Fronts.{lines_appended}
use Rattle.captured_config.proofs.preamble.put_lines.Goals as goal

pub returns : goal.returns
returns c =
    let front = c.in_ok-append_preamble.ensures in
    let interfaces = c.in_ok-put_interfaces.ensures in
    let h = lines_appended _ _ _ c.args.config c.args.interfaces.now _ c.bare-base.ensures (record { text = front.text; legal = front.forms }) (record { text = interfaces.text; legal = interfaces.forms }) in
    record { text = h.text; forms = h.legal }
