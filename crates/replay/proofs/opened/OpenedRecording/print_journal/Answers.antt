use Rattle.replay.specs.declared.buffer.PrintError.TheVariants as stop
use Rattle.replay.specs.Stops.{stop_of}
use Rattle.replay.proofs.Written.{err_as}
use Rattle.replay.proofs.Advance.{shows_none}
use Rattle.replay.proofs.Ends.{none_written, journal_whole, journal_cut, whole_cut, whole_written}
use Rattle.replay.proofs.opened.OpenedRecording.print_journal.Goals as goal

pub returns-in_err-buffer-clause-progress : goal.returns-in_err-buffer-clause-progress
returns-in_err-buffer-clause-progress g c = shows_none _ _

pub returns-in_err-buffer-clause-err : goal.returns-in_err-buffer-clause-err
returns-in_err-buffer-clause-err g c = err_as _ c.from_residual.result stop.Memory c.from_residual.ensures.1 (none_written _ _ _ _ _ c.requires.opened)

pub returns-in_err-show-clause-err : goal.returns-in_err-show-clause-err
returns-in_err-show-clause-err g c =
    err_as _ c.from_residual-in_err-show.result c.in_err-show.field-0.0 c.from_residual-in_err-show.ensures.1
    (journal_cut _ _ _ _ _ _ _ _ c.requires.opened c.requires.show c.in_ok-buffer.ensures c.in_ok-core.ensures.run c.in_err-show.field-0.0 c.in_err-show.ensures.err)

pub returns-in_err-flush_buffer-clause-err : goal.returns-in_err-flush_buffer-clause-err
returns-in_err-flush_buffer-clause-err g c =
    err_as _ c.from_residual-in_err-flush_buffer.result (stop_of c.in_err-flush_buffer.field-0.0) c.from_residual-in_err-flush_buffer.ensures.1 (whole_cut (stop_of c.in_err-flush_buffer.field-0.0) _ _ _ _ _ _
    (journal_whole _ _ _ _ _ _ _ _ c.requires.opened c.requires.show c.in_ok-buffer.ensures c.in_ok-core.ensures.run _ c.in_ok-show.ensures.ok) c.in_err-flush_buffer.ensures.err)

pub returns-clause-ok : goal.returns-clause-ok
returns-clause-ok g c =
    whole_written _ _ _ _ _ _ _ (journal_whole _ _ _ _ _ _ _ _ c.requires.opened c.requires.show c.in_ok-buffer.ensures c.in_ok-core.ensures.run _ c.in_ok-show.ensures.ok) c.in_ok-flush_buffer.ensures.ok c.in_ok-flush_buffer.ensures.empty

pub returns-in_err-core-clause-err : goal.returns-in_err-core-clause-err
returns-in_err-core-clause-err g c = err_as _ c.from_residual-in_err-core.result stop.Memory c.from_residual-in_err-core.ensures.1 (none_written _ _ _ _ _ c.requires.opened)
