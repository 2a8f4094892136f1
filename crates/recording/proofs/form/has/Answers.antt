use Rattle.recording.proofs.Saying.{has_words}
use Rattle.recording.proofs.form.has.Goals as goal

pub returns-in_err-is_interface : goal.returns-in_err-is_interface
returns-in_err-is_interface c =
    rw c.from_residual.ensures (λ form said. let w = has_words _ form said in c.in_err-is_interface.ensures w.is_interface _ tt w.spelled)
