use Rattle.replay.specs.Stops.{stop_of}
use Rattle.replay.specs.declared.buffer.PrintError.TheVariants as stop
use Rattle.replay.proofs.Written.{err_as}
use Rattle.replay.proofs.Paging.{adding_none, adding_more, adding_part, adding_stopped, line_next}
use Rattle.change_log.specs.Lines.{line_of}
use Rattle.change_log.specs.Changes.{due_change}
use Rattle.change_log.proofs.Texts.{line_whole, mapped_lines}
use Rattle.change_log.proofs.showing.show_metrics.Goals as goal

pub loop-change-init : goal.loop-change-init
loop-change-init g c = adding_none _ _ _ _ (mapped_lines c.args.at.now.number c.args.at.now.wanted (due_change c.args.area) c.args.metrics.now)

pub loop-change-preserved : goal.loop-change-preserved
loop-change-preserved g c =
    let next = line_next (λ change. line_of c.args.at.now.number c.args.at.now.wanted (due_change c.args.area change)) c.args.metrics.now c.loop-change.change-index c.change-item.result c.loop-change-test.true c.change-item.is in
    adding_more _ _ _ _ _ _ _ _ _ _ _ c.loop-change.invariant next c.in_ok-put_summary.ensures (line_whole c.args.at.now.number c.args.at.now.wanted (due_change c.args.area c.change-item.result)) c.in_ok-flush_if_full.ensures.ok

pub returns-in_err-put_summary-clause-err : goal.returns-in_err-put_summary-clause-err
returns-in_err-put_summary-clause-err g c = λ whole. err_as _ c.from_residual.result stop.Memory c.from_residual.ensures.1 (adding_part _ _ _ _ _ _ whole c.loop-change.invariant)

pub returns-in_err-flush_if_full-clause-err : goal.returns-in_err-flush_if_full-clause-err
returns-in_err-flush_if_full-clause-err g c =
    let next = line_next (λ change. line_of c.args.at.now.number c.args.at.now.wanted (due_change c.args.area change)) c.args.metrics.now c.loop-change.change-index c.change-item.result c.loop-change-test.true c.change-item.is in
    λ whole. err_as _ c.from_residual-in_err-flush_if_full.result (stop_of c.in_err-flush_if_full.field-0.0) c.from_residual-in_err-flush_if_full.ensures.1
    (adding_stopped (stop_of c.in_err-flush_if_full.field-0.0) _ _ _ _ _ _ _ _ _ _ whole c.loop-change.invariant next c.in_ok-put_summary.ensures (line_whole c.args.at.now.number c.args.at.now.wanted (due_change c.args.area c.change-item.result)) c.in_err-flush_if_full.ensures.err)
