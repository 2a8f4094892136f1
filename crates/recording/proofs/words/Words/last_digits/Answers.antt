use Rattle.std.proofs.Common.{◌∙◌, ap, sym}
use Rattle.recording.specs.Reading.{words_left}
use Rattle.recording.proofs.Digits.{digits_alone, not_digits}
use Rattle.recording.proofs.words.Words.last_digits.Goals as goal

pub returns-then-are_digits : goal.returns-then-are_digits
returns-then-are_digits c =
    let digits = c.are_digits.ensures.0 c.if-are_digits.true in
    (digits, sym c.self.view_is ∙ ap words_left c.in_ok-left.was ∙ digits_alone c.in_ok-left.left.now digits)

pub returns-else-are_digits : goal.returns-else-are_digits
returns-else-are_digits c bytes small same =
    not_digits c.in_ok-left.left.now (λ digits. cc (sym c.if-are_digits.false ∙ c.are_digits.ensures.1 digits)) bytes small (sym (ap words_left c.in_ok-left.was) ∙ c.self.view_is ∙ same)
