use Rattle.std.proofs.Common.{◌∙◌, ap, arith, inl, refl}
use Rattle.recording.specs.Recordings.{RecordingValue}
use Rattle.replay.specs.Lines.{first_number}
use Rattle.replay.specs.Outputs.{recording_of}
use Rattle.replay.specs.declared.buffer.PrintError.TheVariants as stop
use Rattle.replay.proofs.Paging.{page_whole}
use Rattle.replay.proofs.Written.{err_as}
use Rattle.change_log.proofs.Ends.{base_cut, begun, lines_cut, not_begun}
use Rattle.change_log.proofs.printing.begin.Goals as goal

pub returns-in_err-buffer-clause-err : goal.returns-in_err-buffer-clause-err
returns-in_err-buffer-clause-err g c =
    let r : RecordingValue = recording_of c.args.opened.version c.args.opened.core.base c.args.opened.lines.items in
    err_as _ c.from_residual.result stop.Memory c.from_residual.ensures.1 (not_begun c.args.telling r _ c.requires _)

pub returns-in_err-show_all-clause-err : goal.returns-in_err-show_all-clause-err
returns-in_err-show_all-clause-err g c =
    let r : RecordingValue = recording_of c.args.opened.version c.args.opened.core.base c.args.opened.lines.items in
    let counted = c.first_event_line-number.ensures ∙ ap (first_number c.args.opened.version) c.base.ensures.value in
    err_as _ c.from_residual-in_err-show_all.result c.in_err-show_all.field-0.0 c.from_residual-in_err-show_all.ensures.1
    (base_cut c.args.telling r _ c.requires c.first_event_line-number.result _ _ _ _ counted c.in_ok-buffer.ensures (c.in_err-show_all.ensures.err (inl c.in_ok-buffer.ensures)))

pub returns-in_err-print_line_changes-clause-err : goal.returns-in_err-print_line_changes-clause-err
returns-in_err-print_line_changes-clause-err g c =
    let r : RecordingValue = recording_of c.args.opened.version c.args.opened.core.base c.args.opened.lines.items in
    let counted = c.first_event_line-number.ensures ∙ ap (first_number c.args.opened.version) c.base.ensures.value in
    err_as _ c.from_residual-in_err-print_line_changes.result c.in_err-print_line_changes.field-0.0 c.from_residual-in_err-print_line_changes.ensures.1
    (lines_cut c.args.telling r _ c.requires c.first_event_line-number.result _ _ _ _ _ _ counted c.in_ok-buffer.ensures c.in_ok-show_all.ensures.ok
    (c.in_err-print_line_changes.ensures.err (page_whole _ _ _ _ _ c.in_ok-show_all.ensures.ok (inl c.in_ok-buffer.ensures))))

pub returns-clause-ok : goal.returns-clause-ok
returns-clause-ok g c =
    let r : RecordingValue = recording_of c.args.opened.version c.args.opened.core.base c.args.opened.lines.items in
    let counted = c.first_event_line-number.ensures ∙ ap (first_number c.args.opened.version) c.base.ensures.value in
    begun c.args.telling r _ c.requires _ c.first_event_line-number.result _ _ _ _ _ _ counted c.in_ok-buffer.ensures c.in_ok-show_all.ensures.ok c.in_ok-print_line_changes.ensures.ok c.in_ok-print_line_changes.ensures.kept c.in_ok-print_line_changes.ensures.current
    refl refl refl refl (omega (arith, c.len.ensures, c.args.opened.lines.ok.0)) refl
