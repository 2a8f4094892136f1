use Rattle.std.proofs.Common.{refl}
use Rattle.replay.specs.Lines.{due_line}
use Rattle.replay.specs.declared.buffer.PrintError.TheVariants as stop
use Rattle.replay.specs.Stops.{stop_of}
use Rattle.replay.proofs.Written.{err_as}
use Rattle.replay.proofs.Wholes.{due_whole}
use Rattle.replay.proofs.Paging.{adding_none, adding_more, adding_part, adding_stopped, line_next}
use Rattle.replay.proofs.showing.show_area.Goals as goal

pub loop-due-init : goal.loop-due-init
loop-due-init g c = adding_none _ _ _ _ refl

pub loop-due-preserved : goal.loop-due-preserved
loop-due-preserved g c =
    let next = line_next (due_line c.args.format c.args.area) c.args.list.now c.loop-due.due-index c.due-item.result c.loop-due-test.true c.due-item.is in
    adding_more _ _ _ _ _ _ _ _ _ _ _ c.loop-due.invariant next c.in_ok-put_due.ensures (due_whole c.args.format c.args.area c.due-item.result) c.in_ok-flush_if_full.ensures.ok

pub returns-in_err-put_due-clause-err : goal.returns-in_err-put_due-clause-err
returns-in_err-put_due-clause-err g c = λ whole. err_as _ c.from_residual.result stop.Memory c.from_residual.ensures.1 (adding_part _ _ _ _ _ _ whole c.loop-due.invariant)

pub returns-in_err-flush_if_full-clause-err : goal.returns-in_err-flush_if_full-clause-err
returns-in_err-flush_if_full-clause-err g c =
    let next = line_next (due_line c.args.format c.args.area) c.args.list.now c.loop-due.due-index c.due-item.result c.loop-due-test.true c.due-item.is in
    λ whole. err_as _ c.from_residual-in_err-flush_if_full.result (stop_of c.in_err-flush_if_full.field-0.0) c.from_residual-in_err-flush_if_full.ensures.1
    (adding_stopped (stop_of c.in_err-flush_if_full.field-0.0) _ _ _ _ _ _ _ _ _ _ whole c.loop-due.invariant next c.in_ok-put_due.ensures (due_whole c.args.format c.args.area c.due-item.result) c.in_err-flush_if_full.ensures.err)
