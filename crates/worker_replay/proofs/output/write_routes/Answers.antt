use Rattle.std.proofs.Common.{◌++◌, ap, refl, string_bytes}
use Rattle.std.specs.List.{flat_map}
use Rattle.std.specs.FinMap.{entries}
use Rattle.route_table.specs.Tables.{TableValue}
use Rattle.replay.specs.Lines.{serial_line, item_line}
use Rattle.output_lines.specs.declared.format.Show.TheVariants as show
use Rattle.replay.specs.declared.buffer.PrintError.TheVariants as stop
use Rattle.replay.specs.Stops.{stop_of}
use Rattle.replay.proofs.Written.{err_as}
use Rattle.replay.proofs.Wholes.{append_whole, serial_whole}
use Rattle.worker_replay.proofs.Shown.{shown_cut, end_cut, shown_whole, none_written}
use Rattle.worker_replay.proofs.output.write_routes.Goals as goal

pub returns-in_err-put_serial-clause-err : goal.returns-in_err-put_serial-clause-err
returns-in_err-put_serial-clause-err g c = λ whole. err_as _ c.from_residual.result stop.Memory c.from_residual.ensures.1 (λ v. none_written v show.Routes c.args.format _ _ _ _ refl)

pub returns-in_err-show_items-clause-err : goal.returns-in_err-show_items-clause-err
returns-in_err-show_items-clause-err g c =
    λ whole. err_as _ c.from_residual-in_err-show_items.result c.in_err-show_items.field-0.0 c.from_residual-in_err-show_items.ensures.1 (λ v. shown_cut v show.Routes c.args.format _ _ _ _ _ _ _ c.in_ok-put_serial.ensures
    (ap (λ (t : TableValue). (string_bytes c.args.buffer.now ++ serial_line c.args.format c.args.core.now) ++ flat_map (item_line c.args.format) (entries t.items)) c.table.ensures.value)
    c.in_err-show_items.field-0.0 (append_whole _ _ whole (serial_whole c.args.format c.args.core.now)) c.in_err-show_items.ensures.err)

pub returns-in_err-flush_buffer-clause-err : goal.returns-in_err-flush_buffer-clause-err
returns-in_err-flush_buffer-clause-err g c =
    λ whole. err_as _ c.from_residual-in_err-flush_buffer.result (stop_of c.in_err-flush_buffer.field-0.0) c.from_residual-in_err-flush_buffer.ensures.1 (λ v. end_cut v show.Routes c.args.format _ _ _ _ _ _ _ c.in_ok-put_serial.ensures
    (ap (λ (t : TableValue). (string_bytes c.args.buffer.now ++ serial_line c.args.format c.args.core.now) ++ flat_map (item_line c.args.format) (entries t.items)) c.table.ensures.value)
    (stop_of c.in_err-flush_buffer.field-0.0) (append_whole _ _ whole (serial_whole c.args.format c.args.core.now)) _ _ c.in_ok-show_items.ensures.ok c.in_err-flush_buffer.ensures.err)

pub returns-clause-ok : goal.returns-clause-ok
returns-clause-ok g c =
    λ v. shown_whole v show.Routes c.args.format _ _ _ _ _ _ _ c.in_ok-put_serial.ensures
    (ap (λ (t : TableValue). (string_bytes c.args.buffer.now ++ serial_line c.args.format c.args.core.now) ++ flat_map (item_line c.args.format) (entries t.items)) c.table.ensures.value) _ _ _ c.in_ok-show_items.ensures.ok c.in_ok-flush_buffer.ensures.ok c.in_ok-flush_buffer.ensures.empty
