use Rattle.std.proofs.Common.{IfErr, ◌+◌, refl, sym, subst, ◌∙◌}
use Rattle.std.proofs.lemmas.Result.{err_from_is_err_and}
use Rattle.recording.specs.declared.fault.LineFault.{LineFault}
use Rattle.recording.specs.Faults.{IsFaultOf}
use Rattle.recording.specs.Left.{left_in, parts_left}
use Rattle.recording.specs.Progress.{HasHeader}
use Rattle.recording.specs.Reading.{said_by}
use Rattle.recording.proofs.Beginning.{at_place}
use Rattle.recording.proofs.HeaderLines.{no_form_ends, other_ends, cut_in_header, refused_line, added_line}
use Rattle.recording.proofs.parsing.read_header_line.Goals as goal

pub returns-in_err-end-clause-fault : goal.returns-in_err-end-clause-fault
returns-in_err-end-clause-fault c =
    let p = err_from_is_err_and c.from_residual.result c.from_residual.ensures.1 in
    let P : LineFault → Type 0 = IsFaultOf c.args.lines.text.now in
    let cut = cut_in_header c.requires (left_in c.args.lines) (c.in_default.ensures.none refl) c.in_err-end.ensures.cut in
    subst (λ r. IfErr r P) (sym p.1) (subst P (sym (p.2 ∙ c.in_err-end.ensures.fault)) cut)

pub returns-in_default-read_form-clause-end : goal.returns-in_default-read_form-clause-end
returns-in_default-read_form-clause-end c = λ _.
    no_form_ends c.args.version c.in-Some.line.now (left_in c.in-Some.after) c.in-Some.ensures.line (c.in_default-read_form.ensures.none refl)

pub returns-in-Ok-true-clause-read : goal.returns-in-Ok-true-clause-read
returns-in-Ok-true-clause-read c =
    let form = said_by c.in-Some-read_form.form in
    let h = added_line c.requires c.in-Some.line.now (left_in c.in-Some.after) c.in-Some.ensures.line form c.in-Some-read_form.ensures.says (c.in-Ok-true.ensures.next c.in-Ok-true.field-0-test) c.add.new.self c.in-Ok-true.ensures.new in
    at_place (λ text taken. HasHeader c.args.version text taken (parts_left c.in-Some.after) c.add.new.self) c.args.lines.text.now c.in-Some.after.text.now (c.args.lines.taken + 1) c.in-Some.after.taken c.in-Some.ensures.text c.in-Some.ensures.taken h

pub returns-in-Ok-false-clause-end : goal.returns-in-Ok-false-clause-end
returns-in-Ok-false-clause-end c = λ _.
    other_ends c.args.version c.in-Some.line.now (left_in c.in-Some.after) c.in-Some.ensures.line (said_by c.in-Some-read_form.form) c.in-Some-read_form.ensures.says (sym c.in-Ok-false.ensures.header ∙ c.in-Ok-false.field-0-test)

pub returns-in-Err-clause-fault : goal.returns-in-Err-clause-fault
returns-in-Err-clause-fault c =
    subst (IsFaultOf c.args.lines.text.now) (sym c.fault.ensures) (refused_line c.requires c.in-Some.line.now (left_in c.in-Some.after) c.in-Some.ensures.line (said_by c.in-Some-read_form.form) c.in-Some-read_form.ensures.says c.in-Err.ensures.refused c.in-Err.fault c.in-Err.ensures.fault)
