use Rattle.std.proofs.Common.{sym, ◌∙◌}
use Rattle.std.proofs.lemmas.Bool.{false≢true}
use Rattle.recording.specs.Reading.{IsUnpadded}
use Rattle.recording.proofs.Digits.{unpadded_decimal, serial_read}
use Rattle.recording.proofs.words.read_serial.Goals as goal

pub returns-then-is_unpadded : goal.returns-then-is_unpadded
returns-then-is_unpadded c = serial_read c.args.word.now c.decimal_value.result (c.is_unpadded.ensures.0 c.if-is_unpadded.true) c.decimal_value.ensures

pub returns-else-is_unpadded : goal.returns-else-is_unpadded
returns-else-is_unpadded c n within same =
    let is : IsUnpadded c.args.word.now = rw same (unpadded_decimal n within) in
    false≢true (sym c.if-is_unpadded.false ∙ c.is_unpadded.ensures.1 is)
