use Rattle.std.proofs.Common.{ℕ, ◌≤◌, ◌<◌, length, get_or, arith, rules}
use Rattle.std.specs.Int.{w32, to_be_bytes}
use Rattle.std.specs.Fmt.{decimal}
use Rattle.std.proofs.lemmas.Fmt.{length-decimal-le}
use Rattle.ospf_types.proofs.dotted.write_dotted.Goals as goal

-- the last octet has up to three digits
last_short : (address : ℕ) → length (decimal (get_or (to_be_bytes w32 address) 3 0)) ≤ 3
last_short address =
    let small : get_or (to_be_bytes w32 address) 3 0 < 256 = omega arith in
    length-decimal-le 3 _ (omega arith) (omega (arith, small)) (omega (arith, small))

pub write_digits-start-requires : goal.write_digits-start-requires
write_digits-start-requires c =
    let short : length (decimal c.from.result) ≤ 3 = rw (c.from.ensures, c.to_be_bytes.ensures) (last_short c.args.address) in
    (omega (arith, short), search rules)

pub write_octet-start-requires : goal.write_octet-start-requires
write_octet-start-requires c =
    let short : length (decimal c.from.result) ≤ 3 = rw (c.from.ensures, c.to_be_bytes.ensures) (last_short c.args.address) in
    (omega (arith, short, c.write_digits-start.ensures.start), search rules)

pub write_octet-start-requires-2 : goal.write_octet-start-requires-2
write_octet-start-requires-2 c =
    let short : length (decimal c.from.result) ≤ 3 = rw (c.from.ensures, c.to_be_bytes.ensures) (last_short c.args.address) in
    (omega (arith, short, c.write_digits-start.ensures.start, c.write_octet-start.ensures.start), search rules)

pub write_octet-requires : goal.write_octet-requires
write_octet-requires c =
    let short : length (decimal c.from.result) ≤ 3 = rw (c.from.ensures, c.to_be_bytes.ensures) (last_short c.args.address) in
    (omega (arith, short, c.write_digits-start.ensures.start, c.write_octet-start.ensures.start, c.write_octet-start-2.ensures.start), search rules)
