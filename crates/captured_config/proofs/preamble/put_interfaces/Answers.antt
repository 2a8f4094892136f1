use Rattle.std.proofs.Common.{ℕ, false, refl}
use Rattle.ospf_types.specs.declared.config.Interface.{Interface}
use Rattle.recording.specs.Forms.{Form}
use Rattle.recording.specs.Recordings.{form_of}
use Rattle.recording.proofs.Pieces.{appended_at, mapped_appended}
use Rattle.captured_config.specs.Fronts.{interface_event}
use Rattle.captured_config.proofs.preamble.put_interfaces.Goals as goal

abbrev interface_form : ℕ × Interface → Form
interface_form x = form_of (interface_event x)

pub loop-listed-preserved : goal.loop-listed-preserved
loop-listed-preserved c =
    appended_at interface_form _ _ _ _ _ (0, record { area = 0; address = 0; peer = 0; up = false }) c.loop-listed-test.true c.loop-listed.invariant c.in_ok-put_interface.ensures.text c.in_ok-put_interface.ensures.form

pub returns : goal.returns
returns c =
    let h = mapped_appended interface_form _ _ c.args.interfaces.now _ _ refl c.loop-listed-test.false c.loop-listed.invariant in
    record { text = h.text; forms = h.legal }
