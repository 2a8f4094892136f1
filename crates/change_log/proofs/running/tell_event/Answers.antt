use Rattle.std.proofs.lemmas.Result.{on_ok_weaker}
use Rattle.change_log.proofs.RunSteps.{refused_told}
use Rattle.change_log.proofs.running.tell_event.Goals as goal

pub returns-in-Err-clause-ok : goal.returns-in-Err-clause-ok
returns-in-Err-clause-ok g c = on_ok_weaker c.tell_refused.result (λ printed. refused_told _ _ _ _ _ _ _ _ c.apply.result c.apply.ensures.applied _ c.in-Err.is (c.is_missed.ensures.passed c.if-is_missed.false) _ _ printed) c.tell_refused.ensures.ok
