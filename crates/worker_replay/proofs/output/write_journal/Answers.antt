use Rattle.std.proofs.Common.{[], refl}
use Rattle.output_lines.specs.declared.format.Show.TheVariants as show
use Rattle.replay.specs.Stops.{stop_of}
use Rattle.replay.proofs.Written.{err_as}
use Rattle.replay.proofs.Wholes.{none_whole}
use Rattle.worker_replay.proofs.Shown.{shown_cut, end_cut, shown_whole}
use Rattle.worker_replay.proofs.output.write_journal.Goals as goal

pub returns-in_err-show-clause-err : goal.returns-in_err-show-clause-err
returns-in_err-show-clause-err g c =
    err_as _ c.from_residual.result c.in_err-show.field-0.0 c.from_residual.ensures.1 (shown_cut c.args.version show.Journal c.args.format [] c.args.core.now _ _ [] _ _ c.requires refl
    c.in_err-show.field-0.0 none_whole c.in_err-show.ensures.err)

pub returns-in_err-flush_buffer-clause-err : goal.returns-in_err-flush_buffer-clause-err
returns-in_err-flush_buffer-clause-err g c =
    err_as _ c.from_residual-in_err-flush_buffer.result (stop_of c.in_err-flush_buffer.field-0.0) c.from_residual-in_err-flush_buffer.ensures.1 (end_cut c.args.version show.Journal c.args.format [] c.args.core.now _ _ [] _ _ c.requires refl
    (stop_of c.in_err-flush_buffer.field-0.0) none_whole _ _ c.in_ok-show.ensures.ok c.in_err-flush_buffer.ensures.err)

pub returns-clause-ok : goal.returns-clause-ok
returns-clause-ok g c =
    shown_whole c.args.version show.Journal c.args.format [] c.args.core.now _ _ [] _ _ c.requires refl _ _ _ c.in_ok-show.ensures.ok c.in_ok-flush_buffer.ensures.ok c.in_ok-flush_buffer.ensures.empty
