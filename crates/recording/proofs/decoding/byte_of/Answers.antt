use Rattle.std.proofs.Common.{◌+◌, arith}
use Rattle.recording.proofs.Decoded.{both_digits}
use Rattle.recording.proofs.decoding.byte_of.Goals as goal

pub returns : goal.returns
returns c place byte e =
    let found = both_digits c.args.high c.args.low place byte e in
    omega (arith, c.digit_value.ensures.value place found.0 found.2, c.digit_value-2.ensures.value (place + 1) found.1 found.3, found.4)
