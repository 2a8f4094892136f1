use Rattle.replay.specs.Stops.{stop_of}
use Rattle.replay.proofs.Written.{err_as}
use Rattle.change_log.proofs.RunSteps.{found_cut, found_told}
use Rattle.change_log.proofs.running.tell_lookup.Goals as goal

pub returns-in_err-flush_if_full-clause-err : goal.returns-in_err-flush_if_full-clause-err
returns-in_err-flush_if_full-clause-err g c =
    λ whole. err_as _ c.from_residual-in_err-flush_if_full.result (stop_of c.in_err-flush_if_full.field-0.0) c.from_residual-in_err-flush_if_full.ensures.1
    (found_cut _ _ _ _ _ _ c.args.address c.table.result.now c.table.ensures.value _ c.if-not-at.false c.in_ok-put_lookup.ensures (stop_of c.in_err-flush_if_full.field-0.0) _ c.in_err-flush_if_full.ensures.err)

pub returns-clause-ok : goal.returns-clause-ok
returns-clause-ok g c = found_told _ _ _ _ _ _ c.args.address c.table.result.now c.table.ensures.value _ c.if-not-at.false c.in_ok-put_lookup.ensures _ _ c.in_ok-flush_if_full.ensures.ok
