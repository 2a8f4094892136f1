use Rattle.std.proofs.Common.{ap, inl, inr, refl}
use Rattle.replay.specs.declared.buffer.PrintError.TheVariants as stop
use Rattle.replay.proofs.Ends.{stop_of_write, stop_of_closed, stop_of_memory}
use Rattle.change_log.proofs.Behind.{shown_as}
use Rattle.change_log.proofs.Fronts.{closed_line, closed_memory, closed_ok, closed_pipe, closed_read, closed_write, front_came, front_faulty, front_no_other, stopped_behind}
use Rattle.change_log.proofs.Reached.{base_part, begun_page, not_line, not_read, opened_text, stopped_at}
use Rattle.change_log.proofs.printing.print_changes.Goals as goal

pub returns-in_err-recording-clause-line : goal.returns-in_err-recording-clause-line
returns-in_err-recording-clause-line g c = λ f is. inl (
  refl,
  front_faulty c.in-Ok-read_opening.opening _ _ _ _ c.in-Ok.ensures c.in-Ok-read_opening.ensures c.in_err-recording.field-0.0 c.in_err-recording.ensures.fault c.from_residual.result c.from_residual.ensures.1 f is,
)

pub returns-in_err-recording-clause-write : goal.returns-in_err-recording-clause-write
returns-in_err-recording-clause-write g c = λ is. absurd ((front_no_other c.in-Ok-read_opening.opening c.in_err-recording.field-0.0 c.in_err-recording.ensures.fault c.from_residual.result c.from_residual.ensures.1).0 is)

pub returns-in_err-recording-clause-closed : goal.returns-in_err-recording-clause-closed
returns-in_err-recording-clause-closed g c = λ is. absurd ((front_no_other c.in-Ok-read_opening.opening c.in_err-recording.field-0.0 c.in_err-recording.ensures.fault c.from_residual.result c.from_residual.ensures.1).1 is)

pub returns-in-Err-clause-read : goal.returns-in-Err-clause-read
returns-in-Err-clause-read g c = λ is. absurd (not_read c.in-Err.stop _ c.fault_of.ensures (cc is))

pub returns-in-Err-clause-line : goal.returns-in-Err-clause-line
returns-in-Err-clause-line g c = λ f is. absurd (not_line c.in-Err.stop _ f c.fault_of.ensures (cc is))

pub returns-in-Err-clause-write : goal.returns-in-Err-clause-write
returns-in-Err-clause-write g c = λ is.
    let opening = c.in-Ok-read_opening.opening in
    let opens = c.in-Ok-read_opening.ensures in
    let was = c.in-Ok-open.ensures in
    let text = opened_text _ _ _ c.in-Ok-open.opened.version c.in-Ok-open.opened.core.base c.in-Ok-open.opened.lines.items refl was.version was.base was.lines c.in_ok-recording.ensures.recording.text in
    let comes = front_came _ _ _ _ _ c.in-Ok.ensures opening.line.items opening.end c.in_ok-recording.ensures.whole opens in
    stopped_at c.in-Err.stop stop.Write _ _ _ _ _ (stop_of_write c.in-Err.stop _ c.fault_of.ensures (cc is)) (base_part c.in-Err.stop _ _ _ _ _ _ _ comes text c.in-Err.ensures.err)

pub returns-in-Err-clause-closed : goal.returns-in-Err-clause-closed
returns-in-Err-clause-closed g c = λ is.
    let opening = c.in-Ok-read_opening.opening in
    let opens = c.in-Ok-read_opening.ensures in
    let was = c.in-Ok-open.ensures in
    let text = opened_text _ _ _ c.in-Ok-open.opened.version c.in-Ok-open.opened.core.base c.in-Ok-open.opened.lines.items refl was.version was.base was.lines c.in_ok-recording.ensures.recording.text in
    let comes = front_came _ _ _ _ _ c.in-Ok.ensures opening.line.items opening.end c.in_ok-recording.ensures.whole opens in
    stopped_at c.in-Err.stop stop.Closed _ _ _ _ _ (stop_of_closed c.in-Err.stop _ c.fault_of.ensures (cc is)) (base_part c.in-Err.stop _ _ _ _ _ _ _ comes text c.in-Err.ensures.err)

pub returns-in-Err-clause-memory : goal.returns-in-Err-clause-memory
returns-in-Err-clause-memory g c = λ is.
    let opening = c.in-Ok-read_opening.opening in
    let opens = c.in-Ok-read_opening.ensures in
    let was = c.in-Ok-open.ensures in
    let text = opened_text _ _ _ c.in-Ok-open.opened.version c.in-Ok-open.opened.core.base c.in-Ok-open.opened.lines.items refl was.version was.base was.lines c.in_ok-recording.ensures.recording.text in
    let comes = front_came _ _ _ _ _ c.in-Ok.ensures opening.line.items opening.end c.in_ok-recording.ensures.whole opens in
    inr (stopped_at c.in-Err.stop stop.Memory _ _ _ _ _ (stop_of_memory c.in-Err.stop _ c.fault_of.ensures (cc is)) (base_part c.in-Err.stop _ _ _ _ _ _ _ comes text c.in-Err.ensures.err))

pub returns-in-Ok-go_on-clause-ok : goal.returns-in-Ok-go_on-clause-ok
returns-in-Ok-go_on-clause-ok g c =
    let opening = c.in-Ok-read_opening.opening in
    let opens = c.in-Ok-read_opening.ensures in
    let was = c.in-Ok-open.ensures in
    let text = opened_text _ _ _ c.in-Ok-open.opened.version c.in-Ok-open.opened.core.base c.in-Ok-open.opened.lines.items refl was.version was.base was.lines c.in_ok-recording.ensures.recording.text in
    let h = c.in-Ok-begin.ensures.ok in
    closed_ok _ _ _ _ _ _ _ opening.line.items _ _ _ _ h text c.in-Ok.ensures opening.end c.in_ok-recording.ensures.whole opens (ap (λ v. v.items) c.in-Ok-begin.ensures.line) _ _ _ c.in-Ok-go_on.end c.in-Ok-go_on.ensures.ok c.close.result c.close.ensures

pub returns-in-Ok-go_on-clause-read : goal.returns-in-Ok-go_on-clause-read
returns-in-Ok-go_on-clause-read g c = λ is.
    let opening = c.in-Ok-read_opening.opening in
    let opens = c.in-Ok-read_opening.ensures in
    let was = c.in-Ok-open.ensures in
    let text = opened_text _ _ _ c.in-Ok-open.opened.version c.in-Ok-open.opened.core.base c.in-Ok-open.opened.lines.items refl was.version was.base was.lines c.in_ok-recording.ensures.recording.text in
    let h = c.in-Ok-begin.ensures.ok in
    inr (closed_read _ _ _ _ _ _ _ opening.line.items _ _ _ _ h text c.in-Ok.ensures opening.end c.in_ok-recording.ensures.whole opens (ap (λ v. v.items) c.in-Ok-begin.ensures.line) _ _ _ c.in-Ok-go_on.end c.in-Ok-go_on.ensures.ok c.close.result c.close.ensures is)

pub returns-in-Ok-go_on-clause-line : goal.returns-in-Ok-go_on-clause-line
returns-in-Ok-go_on-clause-line g c = λ f is.
    let opening = c.in-Ok-read_opening.opening in
    let opens = c.in-Ok-read_opening.ensures in
    let was = c.in-Ok-open.ensures in
    let text = opened_text _ _ _ c.in-Ok-open.opened.version c.in-Ok-open.opened.core.base c.in-Ok-open.opened.lines.items refl was.version was.base was.lines c.in_ok-recording.ensures.recording.text in
    let h = c.in-Ok-begin.ensures.ok in
    inr (closed_line _ _ _ _ _ _ _ opening.line.items _ _ _ _ h text c.in-Ok.ensures opening.end c.in_ok-recording.ensures.whole opens (ap (λ v. v.items) c.in-Ok-begin.ensures.line) _ _ _ c.in-Ok-go_on.end c.in-Ok-go_on.ensures.ok c.close.result c.close.ensures f is)

pub returns-in-Ok-go_on-clause-write : goal.returns-in-Ok-go_on-clause-write
returns-in-Ok-go_on-clause-write g c = λ is.
    let opening = c.in-Ok-read_opening.opening in
    let opens = c.in-Ok-read_opening.ensures in
    let was = c.in-Ok-open.ensures in
    let text = opened_text _ _ _ c.in-Ok-open.opened.version c.in-Ok-open.opened.core.base c.in-Ok-open.opened.lines.items refl was.version was.base was.lines c.in_ok-recording.ensures.recording.text in
    let h = c.in-Ok-begin.ensures.ok in
    closed_write _ _ _ _ _ _ _ opening.line.items _ _ _ _ h text c.in-Ok.ensures opening.end c.in_ok-recording.ensures.whole opens (ap (λ v. v.items) c.in-Ok-begin.ensures.line) _ _ _ c.in-Ok-go_on.end c.in-Ok-go_on.ensures.ok c.close.result c.close.ensures is

pub returns-in-Ok-go_on-clause-closed : goal.returns-in-Ok-go_on-clause-closed
returns-in-Ok-go_on-clause-closed g c = λ is.
    let opening = c.in-Ok-read_opening.opening in
    let opens = c.in-Ok-read_opening.ensures in
    let was = c.in-Ok-open.ensures in
    let text = opened_text _ _ _ c.in-Ok-open.opened.version c.in-Ok-open.opened.core.base c.in-Ok-open.opened.lines.items refl was.version was.base was.lines c.in_ok-recording.ensures.recording.text in
    let h = c.in-Ok-begin.ensures.ok in
    closed_pipe _ _ _ _ _ _ _ opening.line.items _ _ _ _ h text c.in-Ok.ensures opening.end c.in_ok-recording.ensures.whole opens (ap (λ v. v.items) c.in-Ok-begin.ensures.line) _ _ _ c.in-Ok-go_on.end c.in-Ok-go_on.ensures.ok c.close.result c.close.ensures is

pub returns-in-Ok-go_on-clause-memory : goal.returns-in-Ok-go_on-clause-memory
returns-in-Ok-go_on-clause-memory g c = λ is.
    let opening = c.in-Ok-read_opening.opening in
    let opens = c.in-Ok-read_opening.ensures in
    let was = c.in-Ok-open.ensures in
    let text = opened_text _ _ _ c.in-Ok-open.opened.version c.in-Ok-open.opened.core.base c.in-Ok-open.opened.lines.items refl was.version was.base was.lines c.in_ok-recording.ensures.recording.text in
    let h = c.in-Ok-begin.ensures.ok in
    absurd (closed_memory _ _ _ _ _ _ _ opening.line.items _ _ _ _ h text c.in-Ok.ensures opening.end c.in_ok-recording.ensures.whole opens (ap (λ v. v.items) c.in-Ok-begin.ensures.line) _ _ _ c.in-Ok-go_on.end c.in-Ok-go_on.ensures.ok c.close.result c.close.ensures is)

pub returns-in-Ok-go_on-clause-progress : goal.returns-in-Ok-go_on-clause-progress
returns-in-Ok-go_on-clause-progress g c = shown_as _ _ _ _ c.in-Ok-begin.ensures.progress c.in-Ok-go_on.ensures.progress

pub returns-clause-progress : goal.returns-clause-progress
returns-clause-progress g c = shown_as _ _ _ _ c.in-Ok-begin.ensures.progress c.in-Err-go_on.ensures.progress

pub returns-clause-read : goal.returns-clause-read
returns-clause-read g c = λ is. absurd (not_read c.in-Err-go_on.stop _ c.fault_of-in-Err-go_on.ensures (cc is))

pub returns-clause-line : goal.returns-clause-line
returns-clause-line g c = λ f is. absurd (not_line c.in-Err-go_on.stop _ f c.fault_of-in-Err-go_on.ensures (cc is))

pub returns-clause-write : goal.returns-clause-write
returns-clause-write g c = λ is.
    let opening = c.in-Ok-read_opening.opening in
    let opens = c.in-Ok-read_opening.ensures in
    let was = c.in-Ok-open.ensures in
    let text = opened_text _ _ _ c.in-Ok-open.opened.version c.in-Ok-open.opened.core.base c.in-Ok-open.opened.lines.items refl was.version was.base was.lines c.in_ok-recording.ensures.recording.text in
    let h = c.in-Ok-begin.ensures.ok in
    stopped_at c.in-Err-go_on.stop stop.Write _ _ _ _ _ (stop_of_write c.in-Err-go_on.stop _ c.fault_of-in-Err-go_on.ensures (cc is))
    (stopped_behind _ _ _ _ _ _ _ opening.line.items _ _ _ _ h text c.in-Ok.ensures opening.end c.in_ok-recording.ensures.whole opens (ap (λ v. v.items) c.in-Ok-begin.ensures.line) c.in-Err-go_on.stop _ (c.in-Err-go_on.ensures.err (begun_page _ _ _ _ _ h)))

pub returns-clause-closed : goal.returns-clause-closed
returns-clause-closed g c = λ is.
    let opening = c.in-Ok-read_opening.opening in
    let opens = c.in-Ok-read_opening.ensures in
    let was = c.in-Ok-open.ensures in
    let text = opened_text _ _ _ c.in-Ok-open.opened.version c.in-Ok-open.opened.core.base c.in-Ok-open.opened.lines.items refl was.version was.base was.lines c.in_ok-recording.ensures.recording.text in
    let h = c.in-Ok-begin.ensures.ok in
    stopped_at c.in-Err-go_on.stop stop.Closed _ _ _ _ _ (stop_of_closed c.in-Err-go_on.stop _ c.fault_of-in-Err-go_on.ensures (cc is))
    (stopped_behind _ _ _ _ _ _ _ opening.line.items _ _ _ _ h text c.in-Ok.ensures opening.end c.in_ok-recording.ensures.whole opens (ap (λ v. v.items) c.in-Ok-begin.ensures.line) c.in-Err-go_on.stop _ (c.in-Err-go_on.ensures.err (begun_page _ _ _ _ _ h)))

pub returns-clause-memory : goal.returns-clause-memory
returns-clause-memory g c = λ is.
    let opening = c.in-Ok-read_opening.opening in
    let opens = c.in-Ok-read_opening.ensures in
    let was = c.in-Ok-open.ensures in
    let text = opened_text _ _ _ c.in-Ok-open.opened.version c.in-Ok-open.opened.core.base c.in-Ok-open.opened.lines.items refl was.version was.base was.lines c.in_ok-recording.ensures.recording.text in
    let h = c.in-Ok-begin.ensures.ok in
    inr (stopped_at c.in-Err-go_on.stop stop.Memory _ _ _ _ _ (stop_of_memory c.in-Err-go_on.stop _ c.fault_of-in-Err-go_on.ensures (cc is))
    (stopped_behind _ _ _ _ _ _ _ opening.line.items _ _ _ _ h text c.in-Ok.ensures opening.end c.in_ok-recording.ensures.whole opens (ap (λ v. v.items) c.in-Ok-begin.ensures.line) c.in-Err-go_on.stop _ (c.in-Err-go_on.ensures.err (begun_page _ _ _ _ _ h))))
