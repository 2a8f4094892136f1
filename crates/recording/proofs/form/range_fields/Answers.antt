use Rattle.recording.proofs.Saying.{same_rest}
use Rattle.recording.proofs.form.range_fields.Goals as goal

pub returns-in_err-area : goal.returns-in_err-area
returns-in_err-area c = rw c.from_residual.ensures (λ area range address legal said. c.in_err-area.ensures area _ address said)

pub returns-in_err-prefix : goal.returns-in_err-prefix
returns-in_err-prefix c =
    rw c.from_residual-in_err-prefix.ensures
    (λ area range address legal said. c.in_err-prefix.ensures range.prefix _ legal (same_rest c.in_ok-area.ensures.1 said))

pub returns-in_err-advertise : goal.returns-in_err-advertise
returns-in_err-advertise c =
    rw c.from_residual-in_err-advertise.ensures
    (λ area range address legal said.
    c.in_err-advertise.ensures range.advertise _ tt (same_rest c.in_ok-prefix.ensures.1 (same_rest c.in_ok-area.ensures.1 said)))
