use Rattle.recording.proofs.Saying.{version_words}
use Rattle.recording.proofs.form.version.Goals as goal

pub returns-in_err-version : goal.returns-in_err-version
returns-in_err-version c = rw c.from_residual.ensures (λ form said. let w = version_words _ form said in c.in_err-version.ensures w.version _ tt w.spelled)
