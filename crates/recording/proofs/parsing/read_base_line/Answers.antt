use Rattle.std.proofs.Common.{◌+◌, refl, sym, subst, ◌∙◌}
use Rattle.recording.specs.Faults.{IsFaultOf}
use Rattle.recording.specs.Left.{left_in, parts_left}
use Rattle.recording.specs.Progress.{HasLines}
use Rattle.recording.specs.Reading.{said_by}
use Rattle.recording.proofs.Beginning.{at_place}
use Rattle.recording.proofs.BaseSteps.{added_base, cut_ends, no_form_ends, of_base, other_ends, refused_base}
use Rattle.recording.proofs.parsing.read_base_line.Goals as goal

pub returns-in_default-clause-end : goal.returns-in_default-clause-end
returns-in_default-clause-end c = λ _. cut_ends c.args.version (left_in c.args.lines) (c.in_default.ensures.none refl)

pub returns-in_default-read_form-clause-end : goal.returns-in_default-read_form-clause-end
returns-in_default-read_form-clause-end c = λ _.
    no_form_ends c.args.version c.in-Some.line.now (parts_left c.in-Some.after) c.in-Some.ensures.line (c.in_default-read_form.ensures.none refl)

pub returns-in-Ok-true-clause-read : goal.returns-in-Ok-true-clause-read
returns-in-Ok-true-clause-read c =
    let form = said_by c.in-Some-read_form.form in
    let h = added_base c.requires.read c.in-Some.line.now (left_in c.in-Some.after) c.in-Some.ensures.line form c.in-Some-read_form.ensures.says (sym c.in-Ok-true.ensures.base ∙ c.in-Ok-true.field-0-test) (c.in-Ok-true.ensures.taken c.in-Ok-true.field-0-test) c.add.new.self.base c.in-Ok-true.ensures.new in
    at_place (λ text taken. HasLines text taken (parts_left c.in-Some.after) (of_base c.args.version c.add.new.self.base)) c.args.lines.text.now c.in-Some.after.text.now (c.args.lines.taken + 1) c.in-Some.after.taken c.in-Some.ensures.text c.in-Some.ensures.taken h

pub returns-in-Ok-false-clause-end : goal.returns-in-Ok-false-clause-end
returns-in-Ok-false-clause-end c = λ _.
    other_ends c.args.version c.in-Some.line.now (parts_left c.in-Some.after) c.in-Some.ensures.line (said_by c.in-Some-read_form.form) c.in-Some-read_form.ensures.says (sym c.in-Ok-false.ensures.base ∙ c.in-Ok-false.field-0-test)

pub returns-in-Err-clause-fault : goal.returns-in-Err-clause-fault
returns-in-Err-clause-fault c =
    subst (IsFaultOf c.args.lines.text.now) (sym c.fault.ensures) (refused_base c.requires.read c.in-Some.line.now (left_in c.in-Some.after) c.in-Some.ensures.line (said_by c.in-Some-read_form.form) c.in-Some-read_form.ensures.says c.in-Err.ensures.refused c.in-Err.fault c.in-Err.ensures.fault)
