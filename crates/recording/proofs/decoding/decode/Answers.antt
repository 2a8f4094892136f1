use Rattle.std.proofs.Common.{◌*◌, ◌+◌, ◌<◌, Ok, length, ap, sym, ◌∙◌, arith}
use Rattle.hex.proofs.HexLemmas.{decode_of-even}
use Rattle.hex.proofs.Pairs.{decode_step}
use Rattle.recording.specs.Reading.{bytes_of}
use Rattle.recording.proofs.Decoded.{all_pairs, next_pair}
use Rattle.recording.proofs.decoding.decode.Goals as goal

pub loop-place-preserved : goal.loop-place-preserved
loop-place-preserved c =
    let digits = c.args.digits.now in
    let i = c.loop-place.place in
    let twice = c.requires.room in
    let long = c.loop-place.auto.bytes in
    let fits : 2 * i + 1 < length digits = omega (arith, twice, c.loop-place-test.true) in
    let room : i < length c.loop-place.bytes = omega (arith, long, c.loop-place-test.true) in
    let whole = sym (decode_of-even digits (omega (arith, twice))) ∙ c.requires.digits in
    let pair = next_pair digits c.loop-place.bytes (bytes_of digits) i fits whole c.loop-place.invariant in
    decode_step digits c.loop-place.bytes i c.byte_of.result fits room (pair.1 ∙ ap Ok (sym (c.byte_of.ensures (2 * i) pair.0 pair.1))) c.loop-place.invariant

pub returns : goal.returns
returns c =
    let long = c.loop-place.auto.bytes in
    all_pairs c.args.digits.now c.loop-place.bytes c.loop-place.place (omega (arith, long, c.requires.room)) (omega (arith, long, c.loop-place-test.false)) c.loop-place.invariant
