use Rattle.std.proofs.Common.{ℕ, ◌+◌, Bool, [], ◌∷◌, refl, sym, subst}
use Rattle.recording.specs.declared.header.Setting.{Setting}
use Rattle.recording.specs.declared.version.Version.TheVariants.{Three}
use Rattle.recording.specs.Faults.{IsFaultOf}
use Rattle.recording.specs.Forms.{VersionLine, RouterLine, CompatLine, SerialLine, Says}
use Rattle.recording.specs.Left.{left_in, parts_left}
use Rattle.recording.specs.Progress.{HasRead}
use Rattle.recording.specs.Reading.{said_by}
use Rattle.recording.proofs.Beginning.{three_few, counted, harmless_serial, next_end, next_no_form, next_step, next_other, other_fourth, at_place, spelled_alone}
use Rattle.recording.proofs.HeaderSteps.{lines_read, serial_order}
use Rattle.recording.proofs.parsing.read_serial.Goals as goal

pub returns-in_default-clause-fault : goal.returns-in_default-clause-fault
returns-in_default-clause-fault c =
    subst (IsFaultOf c.args.lines.text.now) (sym c.fault.ensures) (next_end c.requires three_few (left_in c.args.lines) (c.in_default.ensures.none refl))

pub returns-in_default-read_form-clause-fault : goal.returns-in_default-read_form-clause-fault
returns-in_default-read_form-clause-fault c =
    subst (IsFaultOf c.args.lines.text.now) (sym c.fault-in_default-read_form.ensures) (next_no_form c.requires three_few c.in-Some.line.now (left_in c.in-Some.after) c.in-Some.ensures.line (c.in_default-read_form.ensures.none refl))

pub returns-in-Serial-clause-read : goal.returns-in-Serial-clause-read
returns-in-Serial-clause-read c =
    let router : ℕ = c.args.setting.router in
    let compat : Bool = c.args.setting.compat in
    let serial : ℕ = c.in-Serial.serial in
    let setting : Setting = record { router = router; compat = compat; serial = serial } in
    let said : Says Three c.in-Some.line.now (SerialLine serial) = subst (λ f. Says Three c.in-Some.line.now (said_by f)) c.in-Serial.is c.in-Some-read_form.ensures.says in
    let h = next_step c.requires three_few c.in-Some.line.now (left_in c.in-Some.after) c.in-Some.ensures.line (SerialLine serial) said (counted c.requires three_few) (harmless_serial serial) in
    let read = at_place (λ text taken. HasRead Three text taken (parts_left c.in-Some.after) (VersionLine Three ∷ RouterLine router ∷ CompatLine compat ∷ SerialLine serial ∷ [])) c.args.lines.text.now c.in-Some.after.text.now (c.args.lines.taken + 1) c.in-Some.after.taken c.in-Some.ensures.text c.in-Some.ensures.taken h in
    (read, spelled_alone Three setting (λ e. cc) (λ other. absurd (other refl)))

pub returns-in_default-form : goal.returns-in_default-form
returns-in_default-form c =
    let form = said_by c.in-Some-read_form.form in
    let other = serial_order (lines_read c.requires) (counted c.requires three_few) form (other_fourth c.in-Some-read_form.form c.in_default-form.not-Serial) in
    let h = next_other c.requires three_few c.in-Some.line.now (left_in c.in-Some.after) c.in-Some.ensures.line form c.in-Some-read_form.ensures.says other in
    record { read = tt; text = tt; fault = subst (IsFaultOf c.args.lines.text.now) (sym c.fault-in_default-form.ensures) h }
