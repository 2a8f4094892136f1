use Rattle.std.proofs.Common.{rules}
use Rattle.replay.specs.declared.buffer.PrintError.TheVariants as stop
use Rattle.replay.specs.Stops.{stop_of}
use Rattle.replay.proofs.Written.{err_as}
use Rattle.replay.proofs.Recorded.{next_some, next_none, showing_none, showing_more, showing_part, showing_stopped, showing_all}
use Rattle.replay.proofs.journal.show_recorded.Goals as goal

pub loop-line-init : goal.loop-line-init
loop-line-init g c = (c.utf8.text, λ forms is. showing_none _ _ forms _ is)

pub returns-in_err-put_recorded-clause-err : goal.returns-in_err-put_recorded-clause-err
returns-in_err-put_recorded-clause-err g c forms is =
    λ whole. err_as _ c.from_residual.result stop.Memory c.from_residual.ensures.1 (showing_part _ _ _ _ forms _ whole (c.loop-line.invariant.1 forms is))

pub returns-in_err-flush_if_full-clause-err : goal.returns-in_err-flush_if_full-clause-err
returns-in_err-flush_if_full-clause-err g c forms is =
    let h = c.loop-line.invariant.1 forms is in
    let next = next_some _ h.rest _ _ c.in-Some.is h.text c.split_once.ensures.cases in
    λ whole. err_as _ c.from_residual-in_err-flush_if_full.result (stop_of c.in_err-flush_if_full.field-0.0) c.from_residual-in_err-flush_if_full.ensures.1
    (showing_stopped (stop_of c.in_err-flush_if_full.field-0.0) _ _ _ _ _ _ forms _ _ _ whole h next c.in_ok-put_recorded.ensures c.in_err-flush_if_full.ensures.err)

pub loop-line-preserved : goal.loop-line-preserved
loop-line-preserved g c = (
  search rules,
  λ forms is.
      let h = c.loop-line.invariant.1 forms is in
      let next = next_some _ h.rest _ _ c.in-Some.is h.text c.split_once.ensures.cases in
      showing_more _ _ _ _ _ _ _ forms _ _ _ h next c.in_ok-put_recorded.ensures c.in_ok-flush_if_full.ensures.ok,
)

pub returns-clause-ok : goal.returns-clause-ok
returns-clause-ok g c forms is =
    let h = c.loop-line.invariant.1 forms is in
    showing_all _ _ _ _ forms _ h (next_none _ h.rest _ c.in_default.is h.text c.split_once.ensures.cases)
