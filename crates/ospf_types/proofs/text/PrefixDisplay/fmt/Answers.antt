use Rattle.std.proofs.Common.{◌≡◌, ◌≤◌, ◌++◌, replicate, sym, subst, refl, ◌∙◌, codes, arith, rules}
use Rattle.std.specs.Fmt.{decimal}
use Rattle.std.specs.Str.{IsUtf8}
use Rattle.std.proofs.Output.{has_written_of_eq}
use Rattle.ospf_types.specs.Text.{prefix_text, address_text}
use Rattle.ospf_types.proofs.Written.{short_length, prefix_utf8, prefix_written}
use Rattle.ospf_types.proofs.text.PrefixDisplay.fmt.Goals as goal

pub write_digits-start-requires : goal.write_digits-start-requires
write_digits-start-requires g c =
    let small : c.from.result ≤ 32 = rw c.from.ensures (omega (arith, c.length.ensures.bound)) in
    (omega (arith, short_length c.from.result small), omega arith)

pub overflow_sub-text : goal.overflow_sub-text
overflow_sub-text g c =
    let small : c.from.result ≤ 32 = rw c.from.ensures (omega (arith, c.length.ensures.bound)) in
    omega (arith, c.write_digits-start.ensures.start, short_length c.from.result small)

pub overflow_sub-start : goal.overflow_sub-start
overflow_sub-start g c =
    let small : c.from.result ≤ 32 = rw c.from.ensures (omega (arith, c.length.ensures.bound)) in
    omega (arith, c.write_digits-start.ensures.start, short_length c.from.result small)

pub write_dotted-start-requires : goal.write_dotted-start-requires
write_dotted-start-requires g c =
    let small : c.from.result ≤ 32 = rw c.from.ensures (omega (arith, c.length.ensures.bound)) in
    (omega (arith, c.write_digits-start.ensures.start, short_length c.from.result small), search rules)

pub from_utf8_unchecked-requires : goal.from_utf8_unchecked-requires
from_utf8_unchecked-requires g c =
    let small : c.from.result ≤ 32 = rw c.from.ensures (omega (arith, c.length.ensures.bound)) in
    let digits = c.write_digits-start in
    let w = c.write_dotted-start in
    let short = short_length c.from.result small in
    let is = prefix_written w.result digits.result c.address.result c.from.result (replicate 18 0) digits.new.buf w.new.text (omega arith) (omega arith) (omega arith)
    (omega (arith, digits.ensures.start, short)) (omega (arith, digits.ensures.start)) digits.ensures.written w.ensures.text in
    subst IsUtf8 (sym is) (prefix_utf8 c.address.result c.from.result (omega (arith, small)))

pub returns-clause-writes : goal.returns-clause-writes
returns-clause-writes g c plain ok =
    let small : c.from.result ≤ 32 = rw c.from.ensures (omega (arith, c.length.ensures.bound)) in
    let digits = c.write_digits-start in
    let w = c.write_dotted-start in
    let short = short_length c.from.result small in
    let is = prefix_written w.result digits.result c.address.result c.from.result (replicate 18 0) digits.new.buf w.new.text (omega arith) (omega arith) (omega arith)
    (omega (arith, digits.ensures.start, short)) (omega (arith, digits.ensures.start)) digits.ensures.written w.ensures.text in
    let same : prefix_text c.args.self.now ≡ address_text c.address.result ++ codes "/" ++ decimal c.from.result =
    rw (c.from.ensures, c.address.ensures.value, c.length.ensures.value) refl in
    has_written_of_eq _ _ _ _ _ (c.from_utf8_unchecked.ensures ∙ is ∙ sym same) (c.pad.ensures.writes plain ok)
