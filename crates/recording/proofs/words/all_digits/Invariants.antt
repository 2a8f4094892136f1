use Rattle.std.proofs.Common.{◌↔◌, IsTrue, All, take}
use Rattle.recording.specs.Reading.{IsLowerDigit}
use Rattle.recording.proofs.words.all_digits.Given as goal

abbrev pub invariant-loop-digit : goal.invariant-loop-digit
invariant-loop-digit l = IsTrue l.are_all ↔ All IsLowerDigit (take l.digit-index l.word)
