use Rattle.recording.proofs.Saying.{router_words}
use Rattle.recording.proofs.form.router.Goals as goal

pub returns-in_err-router : goal.returns-in_err-router
returns-in_err-router c = rw c.from_residual.ensures (λ form said. let w = router_words _ form said in c.in_err-router.ensures w.address _ w.legal w.spelled)
