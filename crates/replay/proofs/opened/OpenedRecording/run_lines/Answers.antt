use Rattle.std.proofs.Common.{◌+◌, ◌≤◌, length, ap, sym, ◌∙◌, arith}
use Rattle.std.proofs.lemmas.List.{nil_from_length}
use Rattle.std.specs.Vec.Iter.{into_iter_items}
use Rattle.replay.specs.Lines.{first_number}
use Rattle.replay.specs.declared.buffer.PrintError.TheVariants as stop
use Rattle.replay.specs.Stops.{stop_of}
use Rattle.replay.proofs.Written.{err_as}
use Rattle.replay.proofs.Advance.{advanced_none, advanced_more, advanced_shows}
use Rattle.replay.proofs.RunSteps.{running_none, running_more, running_fits, running_all, running_part, running_stopped}
use Rattle.replay.proofs.opened.OpenedRecording.run_lines.Goals as goal

pub loop-line-init : goal.loop-line-init
loop-line-init g c =
    let first = c.first_event_line-number.ensures ∙ ap (first_number c.args.self.version) c.base.ensures.value in
    record { running = running_none _ _ _ _ _ _ _ _ first (sym c.into_iter-line-iterator.ensures.into_iter_gives.0); shown = advanced_none _ _ _ _ first }

pub overflow_add-number : goal.overflow_add-number
overflow_add-number g c =
    let room : c.loop-line.number + 1 ≤ first_number c.args.self.version c.args.self.core.base + length c.args.self.lines.items = running_fits _ _ _ _ _ _ _ _ _ _ _ _ _ c.loop-line.invariant.running c.in-Some.ensures.steps.0 in
    omega arith

pub loop-line-preserved : goal.loop-line-preserved
loop-line-preserved g c =
    record { running = running_more _ _ _ _ _ _ _ _ _ _ _ _ _ _ _ _ _ c.loop-line.invariant.running c.in-Some.ensures.steps.0 c.in_ok-run_line.ensures c.in_ok-flush_if_full.ensures.ok; shown = advanced_more _ _ _ _ _ _ c.loop-line.invariant.shown c.show.ensures }

pub returns-in_err-run_line-clause-err : goal.returns-in_err-run_line-clause-err
returns-in_err-run_line-clause-err g c =
    λ whole. err_as _ c.from_residual.result stop.Memory c.from_residual.ensures.1 (running_part _ _ _ _ _ _ _ _ _ _ _ whole c.loop-line.invariant.running)

pub returns-in_err-flush_if_full-clause-err : goal.returns-in_err-flush_if_full-clause-err
returns-in_err-flush_if_full-clause-err g c =
    λ whole. err_as _ c.from_residual-in_err-flush_if_full.result (stop_of c.in_err-flush_if_full.field-0.0) c.from_residual-in_err-flush_if_full.ensures.1
    (running_stopped (stop_of c.in_err-flush_if_full.field-0.0) _ _ _ _ _ _ _ _ _ _ _ _ _ _ _ _ whole c.loop-line.invariant.running c.in-Some.ensures.steps.0 c.in_ok-run_line.ensures c.in_err-flush_if_full.ensures.err)

pub returns-clause-ok : goal.returns-clause-ok
returns-clause-ok g c =
    running_all _ _ _ _ _ _ _ _ _ _ _ c.loop-line.invariant.running (nil_from_length (into_iter_items c.loop-line.line-iterator) (sym c.loop-line.line-iterator.rest.ok.0 ∙ c.in-None.ensures.steps.0))

pub returns-in_err-run_line-clause-progress : goal.returns-in_err-run_line-clause-progress
returns-in_err-run_line-clause-progress g c = advanced_shows _ _ _ _ _ _ c.progress-progress.ensures c.loop-line.invariant.shown

pub returns-in_err-flush_if_full-clause-progress : goal.returns-in_err-flush_if_full-clause-progress
returns-in_err-flush_if_full-clause-progress g c = advanced_shows _ _ _ _ _ _ c.progress-progress.ensures c.loop-line.invariant.shown

pub returns-clause-progress : goal.returns-clause-progress
returns-clause-progress g c = advanced_shows _ _ _ _ _ _ c.progress-progress.ensures c.loop-line.invariant.shown
