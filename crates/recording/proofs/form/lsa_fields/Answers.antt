use Rattle.std.proofs.Common.{◌∙◌, ◌∷◌, ap}
use Rattle.recording.specs.Forms.{scope_text}
use Rattle.recording.proofs.Saying.{digits_again, lsa_said}
use Rattle.recording.proofs.form.lsa_fields.Goals as goal

pub returns : goal.returns
returns c =
    let scope = c.in_ok-scope.ensures in
    let digits = c.in_ok-digits.ensures in
    let again = digits_again c.in_ok-digits.digits.now digits.0 in
    let words = scope.1 ∙ ap (λ ws. scope_text c.in_ok-scope.scope ∷ ws) digits.1 in
    record { says = (scope.0, again.0, lsa_said _ c.in_ok-scope.scope c.in_ok-digits.digits.now words digits.0); digits = again.2 }
