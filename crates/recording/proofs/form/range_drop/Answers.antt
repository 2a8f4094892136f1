use Rattle.recording.proofs.Saying.{range_drop_words, same_rest}
use Rattle.recording.proofs.form.range_drop.Goals as goal

pub returns-in_err-area : goal.returns-in_err-area
returns-in_err-area c = rw c.from_residual.ensures (λ form said. let w = range_drop_words _ form said in c.in_err-area.ensures w.area _ w.address w.spelled)

pub returns-in_err-prefix : goal.returns-in_err-prefix
returns-in_err-prefix c =
    rw c.from_residual-in_err-prefix.ensures
    (λ form said. let w = range_drop_words _ form said in c.in_err-prefix.ensures w.prefix _ w.legal (same_rest c.in_ok-area.ensures.1 w.spelled))
