use Rattle.std.proofs.Common.{rules}
use Rattle.replay.proofs.Written.{gone_none, gone_more, gone_all, gone_part, appends_none, on_err}
use Rattle.replay.proofs.writing.write_whole.Goals as goal

pub loop-init : goal.loop-init
loop-init g c = gone_none _ _

pub loop-preserved : goal.loop-preserved
loop-preserved g c = gone_more _ _ _ _ _ c.in_ok-step.step.count c.loop.invariant c.in_ok-step.ensures.ok

pub returns-then-is_empty-clause-ok : goal.returns-then-is_empty-clause-ok
returns-then-is_empty-clause-ok g c = gone_all _ _ _ _ (search rules) c.loop.invariant

pub returns-in_err-step-clause-err : goal.returns-in_err-step-clause-err
returns-in_err-step-clause-err g c = on_err c.from_residual.result (gone_part _ _ _ _ _ (search rules) c.loop.invariant c.in_err-step.ensures.err)

pub returns-then-is_empty-2-clause-ok : goal.returns-then-is_empty-2-clause-ok
returns-then-is_empty-2-clause-ok g c = gone_all _ _ _ _ (search rules) c.loop.invariant

pub returns-else-is_empty-2-clause-err : goal.returns-else-is_empty-2-clause-err
returns-else-is_empty-2-clause-err g c = gone_part _ _ _ _ _ (search rules) c.loop.invariant (appends_none _)
