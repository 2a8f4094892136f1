use Rattle.recording.proofs.Saying.{lookup_words}
use Rattle.recording.proofs.form.lookup.Goals as goal

pub returns-in_err-address : goal.returns-in_err-address
returns-in_err-address c = rw c.from_residual.ensures (λ form said. let w = lookup_words _ form said in c.in_err-address.ensures w.address _ w.legal w.spelled)
