use Rattle.std.proofs.Common.{refl}
use Rattle.replay.specs.Lines.{event_line}
use Rattle.replay.specs.declared.buffer.PrintError.TheVariants as stop
use Rattle.replay.specs.Stops.{stop_of}
use Rattle.replay.proofs.Written.{err_as}
use Rattle.replay.proofs.Wholes.{event_whole}
use Rattle.replay.proofs.Paging.{adding_none, adding_more, adding_part, adding_stopped, line_next}
use Rattle.replay.proofs.journal.show_events.Goals as goal

pub loop-event-init : goal.loop-event-init
loop-event-init g c = adding_none _ _ _ _ refl

pub loop-event-preserved : goal.loop-event-preserved
loop-event-preserved g c =
    let next = line_next (event_line c.args.format) c.args.events.now c.loop-event.event-index c.event-item.result c.loop-event-test.true c.event-item.is in
    adding_more _ _ _ _ _ _ _ _ _ _ _ c.loop-event.invariant next c.in_ok-put_event.ensures (event_whole c.args.format c.event-item.result) c.in_ok-flush_if_full.ensures.ok

pub returns-in_err-put_event-clause-err : goal.returns-in_err-put_event-clause-err
returns-in_err-put_event-clause-err g c = λ whole. err_as _ c.from_residual.result stop.Memory c.from_residual.ensures.1 (adding_part _ _ _ _ _ _ whole c.loop-event.invariant)

pub returns-in_err-flush_if_full-clause-err : goal.returns-in_err-flush_if_full-clause-err
returns-in_err-flush_if_full-clause-err g c =
    let next = line_next (event_line c.args.format) c.args.events.now c.loop-event.event-index c.event-item.result c.loop-event-test.true c.event-item.is in
    λ whole. err_as _ c.from_residual-in_err-flush_if_full.result (stop_of c.in_err-flush_if_full.field-0.0) c.from_residual-in_err-flush_if_full.ensures.1
    (adding_stopped (stop_of c.in_err-flush_if_full.field-0.0) _ _ _ _ _ _ _ _ _ _ whole c.loop-event.invariant next c.in_ok-put_event.ensures (event_whole c.args.format c.event-item.result) c.in_err-flush_if_full.ensures.err)
