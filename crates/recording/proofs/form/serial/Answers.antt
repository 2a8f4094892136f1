use Rattle.recording.proofs.Saying.{serial_words}
use Rattle.recording.proofs.form.serial.Goals as goal

pub returns-in_err-serial : goal.returns-in_err-serial
returns-in_err-serial c = rw c.from_residual.ensures (λ form said. let w = serial_words _ form said in c.in_err-serial.ensures w.serial _ w.legal w.spelled)
