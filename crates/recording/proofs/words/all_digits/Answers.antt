use Rattle.std.proofs.Common.{arith}
use Rattle.std.proofs.lemmas.List.{take_all}
use Rattle.recording.specs.Reading.{IsLowerDigit}
use Rattle.recording.proofs.Digits.{one_tested}
use Rattle.recording.proofs.words.all_digits.Goals as goal

pub loop-digit-preserved : goal.loop-digit-preserved
loop-digit-preserved c = one_tested IsLowerDigit c.args.word.now c.loop-digit.digit-index 0 c.loop-digit.are_all c.is_lower_digit-are_all.result c.loop-digit-test.true c.loop-digit.invariant c.is_lower_digit-are_all.ensures

pub returns : goal.returns
returns c = rw (take_all c.loop-digit.digit-index c.args.word.now (omega (arith, c.loop-digit-test.false))) at c.loop-digit.invariant
