use Rattle.std.proofs.Common.{ℕ, ◌+◌, [], ◌∷◌, refl, sym, subst}
use Rattle.recording.specs.Faults.{IsFaultOf}
use Rattle.recording.specs.Forms.{VersionLine, RouterLine, Says}
use Rattle.recording.specs.Left.{left_in, parts_left}
use Rattle.recording.specs.Progress.{HasRead}
use Rattle.recording.specs.Reading.{said_by}
use Rattle.recording.proofs.Beginning.{one_few, counted, harmless_router, next_end, next_no_form, next_step, next_other, other_second, at_place}
use Rattle.recording.proofs.HeaderSteps.{lines_read, router_order}
use Rattle.recording.proofs.parsing.read_router.Goals as goal

pub returns-in_default-clause-fault : goal.returns-in_default-clause-fault
returns-in_default-clause-fault c =
    subst (IsFaultOf c.args.lines.text.now) (sym c.fault.ensures) (next_end c.requires (one_few c.args.version) (left_in c.args.lines) (c.in_default.ensures.none refl))

pub returns-in_default-read_form-clause-fault : goal.returns-in_default-read_form-clause-fault
returns-in_default-read_form-clause-fault c =
    subst (IsFaultOf c.args.lines.text.now) (sym c.fault-in_default-read_form.ensures) (next_no_form c.requires (one_few c.args.version) c.in-Some.line.now (left_in c.in-Some.after) c.in-Some.ensures.line (c.in_default-read_form.ensures.none refl))

pub returns-in-Router-clause-read : goal.returns-in-Router-clause-read
returns-in-Router-clause-read c =
    let v = c.args.version in
    let router : ℕ = c.in-Router.router in
    let said : Says v c.in-Some.line.now (RouterLine router) = subst (λ f. Says v c.in-Some.line.now (said_by f)) c.in-Router.is c.in-Some-read_form.ensures.says in
    let h = next_step c.requires (one_few v) c.in-Some.line.now (left_in c.in-Some.after) c.in-Some.ensures.line (RouterLine router) said (counted c.requires (one_few v)) (harmless_router router) in
    at_place (λ text taken. HasRead v text taken (parts_left c.in-Some.after) (VersionLine v ∷ RouterLine router ∷ [])) c.args.lines.text.now c.in-Some.after.text.now (c.args.lines.taken + 1) c.in-Some.after.taken c.in-Some.ensures.text c.in-Some.ensures.taken h

pub returns-in_default-form : goal.returns-in_default-form
returns-in_default-form c =
    let v = c.args.version in
    let form = said_by c.in-Some-read_form.form in
    let other = router_order v (lines_read c.requires) (counted c.requires (one_few v)) form (other_second c.in-Some-read_form.form c.in_default-form.not-Router) in
    let h = next_other c.requires (one_few v) c.in-Some.line.now (left_in c.in-Some.after) c.in-Some.ensures.line form c.in-Some-read_form.ensures.says other in
    record { read = tt; text = tt; fault = subst (IsFaultOf c.args.lines.text.now) (sym c.fault-in_default-form.ensures) h }
