use Rattle.std.proofs.Common.{inr, refl}
use Rattle.std.proofs.lemmas.Result.{on_ok_weaker, IfErr-weaker}
use Rattle.replay.specs.declared.buffer.PrintError.TheVariants as stop
use Rattle.replay.proofs.Written.{err_as}
use Rattle.change_log.proofs.RunSteps.{taken_stops, taken_told}
use Rattle.change_log.proofs.following.tell_next.Goals as goal

pub returns-in_err-shorten_journal-clause-err : goal.returns-in_err-shorten_journal-clause-err
returns-in_err-shorten_journal-clause-err g c = λ whole. err_as _ c.from_residual.result stop.Memory c.from_residual.ensures.1 (inr (refl, refl))

pub returns-clause-ok : goal.returns-clause-ok
returns-clause-ok g c = on_ok_weaker c.tell_line.result (taken_told _ _ _ _ _ _ _ _ _ _ _ c.in_ok-shorten_journal.ensures.kept c.in_ok-shorten_journal.ensures.short) c.tell_line.ensures.ok

pub returns-clause-err : goal.returns-clause-err
returns-clause-err g c = λ whole. IfErr-weaker c.tell_line.result _ _ (λ why stops. taken_stops why _ _ _ _ _ _ _ _ _ _ c.in_ok-shorten_journal.ensures.kept c.in_ok-shorten_journal.ensures.short stops) (c.tell_line.ensures.err whole)
