use Rattle.std.proofs.Common.{◌∷◌, codes, ap}
use Rattle.recording.proofs.Saying.{has_interface_words}
use Rattle.recording.proofs.form.has_interface.Goals as goal

pub returns-in_err-fields : goal.returns-in_err-fields
returns-in_err-fields c = rw c.from_residual.ensures (λ form said. let w = has_interface_words _ form said in c.in_err-fields.ensures w.pair w.legal w.spelled)

pub returns : goal.returns
returns c =
    let f = c.in_ok-fields.ensures in (record { spelled = ap (λ ws. codes "has" ∷ codes "interface" ∷ ws) f.1; legal = f.0 }, tt)
