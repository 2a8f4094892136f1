use Rattle.std.proofs.Common.{sym, ◌∙◌}
use Rattle.std.proofs.lemmas.Bool.{false≢true}
use Rattle.recording.specs.Reading.{said_by}
use Rattle.recording.proofs.Saying.{form_said, no_form_said, other_version_said}
use Rattle.recording.proofs.form.read_form.Goals as goal

pub returns-in_default-clause-none : goal.returns-in_default-clause-none
returns-in_default-clause-none c = λ _. no_form_said c.args.version c.args.line.now c.in_default.ensures

pub returns-then-is_of_version-clause-says : goal.returns-then-is_of_version-clause-says
returns-then-is_of_version-clause-says c =
    form_said c.args.version c.args.line.now (said_by c.in-Some.form) c.in-Some.ensures.0 (c.is_of_version.ensures.0 c.if-is_of_version.true)

pub returns-else-is_of_version-clause-none : goal.returns-else-is_of_version-clause-none
returns-else-is_of_version-clause-none c = λ _.
    other_version_said c.args.version c.args.line.now (said_by c.in-Some.form) c.in-Some.ensures.0 (λ own. false≢true (sym c.if-is_of_version.false ∙ c.is_of_version.ensures.1 own))
