use Rattle.recording.proofs.Decoded.{value_of_bits}
use Rattle.recording.proofs.decoding.digit_value.Goals as goal

pub returns-clause-value : goal.returns-clause-value
returns-clause-value c place value e = value_of_bits c.args.digit place value e
