use Rattle.std.proofs.Common.{◌+◌, [], ◌∷◌, refl, sym, subst, ◌∙◌}
use Rattle.recording.specs.Faults.{IsFaultOf}
use Rattle.recording.specs.Forms.{VersionLine}
use Rattle.recording.specs.Left.{left_in, parts_left}
use Rattle.recording.specs.Progress.{HasRead}
use Rattle.recording.proofs.Beginning.{first_end, first_step, first_other, at_place}
use Rattle.recording.proofs.parsing.read_version.Goals as goal

pub returns-in_default-clause-fault : goal.returns-in_default-clause-fault
returns-in_default-clause-fault c =
    subst (IsFaultOf c.args.text.now) (sym c.fault.ensures) (first_end c.args.text.now c.of-lines.result.taken c.of-lines.ensures.taken (parts_left c.of-lines.result) c.of-lines.ensures.left (left_in c.of-lines.result) (c.in_default.ensures.none refl))

pub returns-in-Some-version_in-clause-read : goal.returns-in-Some-version_in-clause-read
returns-in-Some-version_in-clause-read c =
    let version = c.in-Some-version_in.version in
    let h = first_step c.args.text.now c.of-lines.result.taken c.of-lines.ensures.taken (parts_left c.of-lines.result) c.of-lines.ensures.left version c.in-Some.line.now (left_in c.in-Some.after) c.in-Some.ensures.line c.in-Some-version_in.ensures.some in
    at_place (λ text taken. HasRead version text taken (parts_left c.in-Some.after) (VersionLine version ∷ [])) c.args.text.now c.in-Some.after.text.now (c.of-lines.result.taken + 1) c.in-Some.after.taken (c.in-Some.ensures.text ∙ c.of-lines.ensures.text) c.in-Some.ensures.taken h

pub returns-in-None-clause-fault : goal.returns-in-None-clause-fault
returns-in-None-clause-fault c =
    let none = c.in-None.ensures.none refl in
    let h = first_other c.args.text.now c.of-lines.result.taken c.of-lines.ensures.taken (parts_left c.of-lines.result) c.of-lines.ensures.left c.in-Some.line.now (left_in c.in-Some.after) c.in-Some.ensures.line none in
    subst (IsFaultOf c.args.text.now) (sym c.fault-in-None.ensures) h
