use Rattle.std.proofs.Common.{ℕ, ◌+◌, Bool, [], ◌∷◌, refl, sym, subst}
use Rattle.recording.specs.Faults.{IsFaultOf}
use Rattle.recording.specs.Forms.{VersionLine, RouterLine, CompatLine, Says}
use Rattle.recording.specs.Left.{left_in, parts_left}
use Rattle.recording.specs.Progress.{HasRead}
use Rattle.recording.specs.Reading.{said_by}
use Rattle.recording.proofs.Beginning.{two_few, counted, harmless_compat, next_end, next_no_form, next_step, next_other, other_third, at_place}
use Rattle.recording.proofs.HeaderSteps.{lines_read, compat_order}
use Rattle.recording.proofs.parsing.read_compat.Goals as goal

pub returns-in_default-clause-fault : goal.returns-in_default-clause-fault
returns-in_default-clause-fault c =
    let few = two_few c.args.version c.requires.later in
    subst (IsFaultOf c.args.lines.text.now) (sym c.fault.ensures) (next_end c.requires.read few (left_in c.args.lines) (c.in_default.ensures.none refl))

pub returns-in_default-read_form-clause-fault : goal.returns-in_default-read_form-clause-fault
returns-in_default-read_form-clause-fault c =
    let few = two_few c.args.version c.requires.later in
    subst (IsFaultOf c.args.lines.text.now) (sym c.fault-in_default-read_form.ensures) (next_no_form c.requires.read few c.in-Some.line.now (left_in c.in-Some.after) c.in-Some.ensures.line (c.in_default-read_form.ensures.none refl))

pub returns-in-Compat-clause-read : goal.returns-in-Compat-clause-read
returns-in-Compat-clause-read c =
    let v = c.args.version in
    let few = two_few v c.requires.later in
    let router : ℕ = c.args.setting.router in
    let compat : Bool = c.in-Compat.compat in
    let said : Says v c.in-Some.line.now (CompatLine compat) = subst (λ f. Says v c.in-Some.line.now (said_by f)) c.in-Compat.is c.in-Some-read_form.ensures.says in
    let h = next_step c.requires.read few c.in-Some.line.now (left_in c.in-Some.after) c.in-Some.ensures.line (CompatLine compat) said (counted c.requires.read few) (harmless_compat compat) in
    at_place (λ text taken. HasRead v text taken (parts_left c.in-Some.after) (VersionLine v ∷ RouterLine router ∷ CompatLine compat ∷ [])) c.args.lines.text.now c.in-Some.after.text.now (c.args.lines.taken + 1) c.in-Some.after.taken c.in-Some.ensures.text c.in-Some.ensures.taken h

pub returns-in_default-form : goal.returns-in_default-form
returns-in_default-form c =
    let v = c.args.version in
    let few = two_few v c.requires.later in
    let form = said_by c.in-Some-read_form.form in
    let other = compat_order v (lines_read c.requires.read) c.requires.later (counted c.requires.read few) form (other_third c.in-Some-read_form.form c.in_default-form.not-Compat) in
    let h = next_other c.requires.read few c.in-Some.line.now (left_in c.in-Some.after) c.in-Some.ensures.line form c.in-Some-read_form.ensures.says other in
    record { read = tt; serial = tt; text = tt; fault = subst (IsFaultOf c.args.lines.text.now) (sym c.fault-in_default-form.ensures) h }
