use Rattle.output_lines.proofs.Texts.{bits_printed}
use Rattle.output_lines.proofs.router.put_bits.Goals as goal

pub returns : goal.returns
returns c =
    bits_printed _ _ _ _ _ _ _ c.args.bits c.in_ok-push_str.ensures.bytes c.in_ok-put_hexadecimal.ensures c.in_ok-put_bit.ensures c.in_ok-put_bit-2.ensures c.in_ok-put_bit-3.ensures c.in_ok-push_str-2.ensures.bytes
