use Rattle.recording.proofs.Saying.{compat_words}
use Rattle.recording.proofs.form.compat.Goals as goal

pub returns-in_err-is_enabled : goal.returns-in_err-is_enabled
returns-in_err-is_enabled c = rw c.from_residual.ensures (λ form said. let w = compat_words _ form said in c.in_err-is_enabled.ensures w.is_first _ tt w.spelled)
