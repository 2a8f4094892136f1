use Rattle.std.proofs.Common.{◌∷◌, codes, ap}
use Rattle.recording.proofs.Saying.{range_words_of}
use Rattle.recording.proofs.form.range.Goals as goal

pub returns-in_err-fields : goal.returns-in_err-fields
returns-in_err-fields c = rw c.from_residual.ensures (λ form said. let w = range_words_of _ form said in c.in_err-fields.ensures w.area w.range w.address w.legal w.spelled)

pub returns : goal.returns
returns c =
    let f = c.in_ok-fields.ensures in (record { spelled = ap (λ ws. codes "range" ∷ ws) f.2; legal = (f.0, f.1) }, tt)
