use Rattle.std.proofs.Common.{◌∷◌, codes, ap}
use Rattle.recording.proofs.Saying.{interface_words_of}
use Rattle.recording.proofs.form.interface.Goals as goal

pub returns-in_err-fields : goal.returns-in_err-fields
returns-in_err-fields c = rw c.from_residual.ensures (λ form said. let w = interface_words_of _ form said in c.in_err-fields.ensures w.pair w.legal w.spelled)

pub returns : goal.returns
returns c =
    let f = c.in_ok-fields.ensures in (record { spelled = ap (λ ws. codes "interface" ∷ ws) f.1; legal = f.0 }, tt)
