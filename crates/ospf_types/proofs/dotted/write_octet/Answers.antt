use Rattle.std.proofs.Common.{◌≤◌, length, arith, rules}
use Rattle.std.specs.Fmt.{decimal}
use Rattle.std.proofs.lemmas.Fmt.{length-decimal-le}
use Rattle.ospf_types.proofs.dotted.write_octet.Goals as goal

pub write_digits-requires : goal.write_digits-requires
write_digits-requires c =
    let short : length (decimal c.from.result) ≤ 3 = rw c.from.ensures (length-decimal-le 3 c.args.octet (omega arith) (omega (arith, c.ranges.octet.fits)) (omega (arith, c.ranges.octet.fits))) in
    (omega (arith, short), search rules)

pub returns-clause-start : goal.returns-clause-start
returns-clause-start c =
    let short : length (decimal c.from.result) ≤ 3 = rw c.from.ensures (length-decimal-le 3 c.args.octet (omega arith) (omega (arith, c.ranges.octet.fits)) (omega (arith, c.ranges.octet.fits))) in
    (omega arith, omega (arith, short, c.write_digits.ensures.start))
