use Rattle.std.proofs.Common.{eqb-true}
use Rattle.recording.proofs.Digits.{digits_there, digits_lower, digits_even}
use Rattle.recording.proofs.words.are_digits.Goals as goal

pub returns-then-word-eq0 : goal.returns-then-word-eq0
returns-then-word-eq0 c = (
  λ all. digits_there c.args.word.now c.if-word-eq0.true (c.all_digits.ensures.0 all),
  λ digits. c.all_digits.ensures.1 (digits_lower c.args.word.now digits),
)

pub returns-else-word-eq0 : goal.returns-else-word-eq0
returns-else-word-eq0 c = (
  λ even. absurd (c.if-word-eq0.false (eqb-true _ 0 even)),
  λ digits. absurd (c.if-word-eq0.false (digits_even c.args.word.now digits)),
)
