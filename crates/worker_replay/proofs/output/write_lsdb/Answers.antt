use Rattle.std.proofs.Common.{refl}
use Rattle.output_lines.specs.declared.format.Show.TheVariants as show
use Rattle.replay.specs.declared.buffer.PrintError.TheVariants as stop
use Rattle.replay.specs.Stops.{stop_of}
use Rattle.replay.proofs.Written.{err_as}
use Rattle.replay.proofs.Wholes.{append_whole, serial_whole}
use Rattle.worker_replay.proofs.Shown.{shown_cut, end_cut, shown_whole, none_written}
use Rattle.worker_replay.proofs.output.write_lsdb.Goals as goal

pub returns-in_err-put_serial-clause-err : goal.returns-in_err-put_serial-clause-err
returns-in_err-put_serial-clause-err g c = λ whole. err_as _ c.from_residual.result stop.Memory c.from_residual.ensures.1 (λ v. none_written v show.Lsdb c.args.format _ _ _ _ (c.args.lsas.items, c.requires, refl))

pub returns-in_err-show_lsas-clause-err : goal.returns-in_err-show_lsas-clause-err
returns-in_err-show_lsas-clause-err g c =
    λ whole. err_as _ c.from_residual-in_err-show_lsas.result c.in_err-show_lsas.field-0.0 c.from_residual-in_err-show_lsas.ensures.1 (λ v. shown_cut v show.Lsdb c.args.format _ _ _ _ _ _ _ c.in_ok-put_serial.ensures
    (c.args.lsas.items, c.requires, refl)
    c.in_err-show_lsas.field-0.0 (append_whole _ _ whole (serial_whole c.args.format c.args.core.now)) c.in_err-show_lsas.ensures.err)

pub returns-in_err-flush_buffer-clause-err : goal.returns-in_err-flush_buffer-clause-err
returns-in_err-flush_buffer-clause-err g c =
    λ whole. err_as _ c.from_residual-in_err-flush_buffer.result (stop_of c.in_err-flush_buffer.field-0.0) c.from_residual-in_err-flush_buffer.ensures.1 (λ v. end_cut v show.Lsdb c.args.format _ _ _ _ _ _ _ c.in_ok-put_serial.ensures
    (c.args.lsas.items, c.requires, refl)
    (stop_of c.in_err-flush_buffer.field-0.0) (append_whole _ _ whole (serial_whole c.args.format c.args.core.now)) _ _ c.in_ok-show_lsas.ensures.ok c.in_err-flush_buffer.ensures.err)

pub returns-clause-ok : goal.returns-clause-ok
returns-clause-ok g c =
    λ v. shown_whole v show.Lsdb c.args.format _ _ _ _ _ _ _ c.in_ok-put_serial.ensures
    (c.args.lsas.items, c.requires, refl) _ _ _ c.in_ok-show_lsas.ensures.ok c.in_ok-flush_buffer.ensures.ok c.in_ok-flush_buffer.ensures.empty
