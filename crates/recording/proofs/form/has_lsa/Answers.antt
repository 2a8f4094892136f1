use Rattle.std.proofs.Common.{◌∷◌, codes, ap}
use Rattle.recording.proofs.Saying.{has_lsa_words}
use Rattle.recording.proofs.form.has_lsa.Goals as goal

pub returns-in_err-fields : goal.returns-in_err-fields
returns-in_err-fields c =
    rw c.from_residual.ensures (λ form said. let w = has_lsa_words _ form said in c.in_err-fields.ensures.says w.at w.bytes w.scope w.small w.spelled)

pub returns : goal.returns
returns c =
    let f = c.in_ok-fields.ensures in
    (record { spelled = ap (λ ws. codes "has" ∷ codes "lsa" ∷ ws) f.says.2; legal = (f.says.0, f.says.1) }, f.digits)
