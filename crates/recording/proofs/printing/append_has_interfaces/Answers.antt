use Rattle.std.proofs.Common.{false, refl}
use Rattle.recording.specs.Recordings.{interface_form}
use Rattle.recording.proofs.Pieces.{appended_at, mapped_appended}
use Rattle.recording.proofs.printing.append_has_interfaces.Goals as goal

pub loop-listed-preserved : goal.loop-listed-preserved
loop-listed-preserved c =
    appended_at interface_form _ _ _ _ _ (0, record { area = 0; address = 0; peer = 0; up = false }) c.loop-listed-test.true c.loop-listed.invariant c.in_ok-append_has_interface.ensures.text c.in_ok-append_has_interface.ensures.form

pub returns : goal.returns
returns c =
    let h = mapped_appended interface_form _ _ c.args.interfaces.now _ _ refl c.loop-listed-test.false c.loop-listed.invariant in
    record { text = h.text; forms = h.legal }
