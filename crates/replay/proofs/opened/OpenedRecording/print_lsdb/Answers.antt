use Rattle.std.proofs.Common.{refl, inl}
use Rattle.output_lines.specs.declared.format.Show.TheVariants as show
use Rattle.replay.specs.declared.buffer.PrintError.TheVariants as stop
use Rattle.replay.specs.Stops.{stop_of}
use Rattle.replay.proofs.Written.{err_as}
use Rattle.replay.proofs.Advance.{shows_none}
use Rattle.replay.proofs.RunSteps.{ran_whole}
use Rattle.replay.proofs.Ends.{none_written, run_cut, shown_whole, shown_cut, whole_cut, whole_written}
use Rattle.replay.proofs.opened.OpenedRecording.print_lsdb.Goals as goal

pub returns-in_err-buffer-clause-progress : goal.returns-in_err-buffer-clause-progress
returns-in_err-buffer-clause-progress g c = shows_none _ _

pub returns-in_err-buffer-clause-err : goal.returns-in_err-buffer-clause-err
returns-in_err-buffer-clause-err g c = err_as _ c.from_residual.result stop.Memory c.from_residual.ensures.1 (none_written _ _ _ _ _ c.requires.opened)

pub returns-in_err-core-clause-err : goal.returns-in_err-core-clause-err
returns-in_err-core-clause-err g c =
    err_as _ c.from_residual-in_err-core.result c.in_err-core.field-0.0 c.from_residual-in_err-core.ensures.1
    (run_cut _ _ _ _ _ show.Lsdb _ _ _ c.requires.opened c.requires.show tt c.in_ok-buffer.ensures (c.in_err-core.ensures.err (inl c.in_ok-buffer.ensures)))

pub returns-in_err-lsas-clause-err : goal.returns-in_err-lsas-clause-err
returns-in_err-lsas-clause-err g c =
    err_as _ c.from_residual-in_err-lsas.result stop.Memory c.from_residual-in_err-lsas.ensures.1
    (run_cut stop.Memory _ _ _ _ show.Lsdb _ _ _ c.requires.opened c.requires.show tt c.in_ok-buffer.ensures (ran_whole _ _ _ _ _ _ _ _ _ (inl c.in_ok-buffer.ensures) c.in_ok-core.ensures.ok))

pub returns-in_err-put_serial-clause-err : goal.returns-in_err-put_serial-clause-err
returns-in_err-put_serial-clause-err g c =
    err_as _ c.from_residual-in_err-put_serial.result stop.Memory c.from_residual-in_err-put_serial.ensures.1
    (run_cut stop.Memory _ _ _ _ show.Lsdb _ _ _ c.requires.opened c.requires.show tt c.in_ok-buffer.ensures (ran_whole _ _ _ _ _ _ _ _ _ (inl c.in_ok-buffer.ensures) c.in_ok-core.ensures.ok))

pub returns-in_err-show_lsas-clause-err : goal.returns-in_err-show_lsas-clause-err
returns-in_err-show_lsas-clause-err g c =
    err_as _ c.from_residual-in_err-show_lsas.result c.in_err-show_lsas.field-0.0 c.from_residual-in_err-show_lsas.ensures.1
    (shown_cut _ _ _ _ _ show.Lsdb _ _ _ _ _ _ _ c.requires.opened c.requires.show tt c.in_ok-buffer.ensures c.in_ok-core.ensures.ok c.in_ok-put_serial.ensures (λ printed. (c.in_ok-lsas.lsas.items, c.in_ok-lsas.ensures, refl))
    c.in_err-show_lsas.field-0.0 c.in_err-show_lsas.ensures.err)

pub returns-in_err-flush_buffer-clause-err : goal.returns-in_err-flush_buffer-clause-err
returns-in_err-flush_buffer-clause-err g c =
    err_as _ c.from_residual-in_err-flush_buffer.result (stop_of c.in_err-flush_buffer.field-0.0) c.from_residual-in_err-flush_buffer.ensures.1 (whole_cut (stop_of c.in_err-flush_buffer.field-0.0) _ _ _ _ _ _
    (shown_whole _ _ _ _ _ show.Lsdb _ _ _ _ _ _ _ c.requires.opened c.requires.show tt c.in_ok-buffer.ensures c.in_ok-core.ensures.ok c.in_ok-put_serial.ensures (λ printed. (c.in_ok-lsas.lsas.items, c.in_ok-lsas.ensures, refl)) _
    c.in_ok-show_lsas.ensures.ok) c.in_err-flush_buffer.ensures.err)

pub returns-clause-ok : goal.returns-clause-ok
returns-clause-ok g c =
    whole_written _ _ _ _ _ _ _
    (shown_whole _ _ _ _ _ show.Lsdb _ _ _ _ _ _ _ c.requires.opened c.requires.show tt c.in_ok-buffer.ensures c.in_ok-core.ensures.ok c.in_ok-put_serial.ensures (λ printed. (c.in_ok-lsas.lsas.items, c.in_ok-lsas.ensures, refl)) _
    c.in_ok-show_lsas.ensures.ok) c.in_ok-flush_buffer.ensures.ok c.in_ok-flush_buffer.ensures.empty
